-- What holds of every world that events lead to. To know: `answers-right`, `rights-go`, `walks-go_on`, `runs-more`, `reached-step`, `reached-published`, `reached-leaves`, `reached-rights`.
use Rattle.std.proofs.Common.{◌≡◌, ℕ, ◌+◌, ◌<◌, ◌≤◌, true, false, List, [], ◌∷◌, ◌++◌, length, drop, refl, sym, ap, ◌∙◌, subst, arith}
use Rattle.std.specs.Prelude.{Option, Some, None}
use Rattle.std.proofs.lemmas.List.{length-drop}
use Rattle.rdb_base.specs.Ranges.{NotBelow, in_range}
use Rattle.rdb_base.specs.Runs.{change_at}
use Rattle.rdb_base.specs.declared.change.Change.{Change}
use Rattle.rdb_base.specs.declared.pair.Pair.{Pair}
use Rattle.rdb_base.proofs.PlaceLemmas.{some_injective}
use Rattle.rdb_base.proofs.RangeLemmas.{range_to}
use Rattle.meta_trie.specs.Tries.{Anchored}
use Rattle.worm_leaf.specs.Leaves.{LeafState, IsLeaf, covers}
use Rattle.worm_core.specs.Events.{StepsTo, RunsTo, IsReached, entered, moved, with_walker, Puts, SplitsLeaf, GoesRight}
use Rattle.worm_core.specs.Promises.{put_by, puts_of, IsRight, AnswersAreRight, RightsGo, GoesOn, WalksGoOn}
use Rattle.worm_core.specs.Worlds.{World, opening, walker_at, Stands, IsRightOf}
use Rattle.worm_core.specs.declared.leaf_answer.LeafAnswer.{LeafAnswer}
use Rattle.worm_core.specs.declared.leaf_answer.LeafAnswer.TheVariants as answers
use Rattle.worm_core.specs.declared.leaf_event.LeafEvent.{LeafEvent}
use Rattle.worm_core.specs.declared.leaf_event.LeafEvent.TheVariants as events
use Rattle.worm_core.specs.declared.limits.TheConstants.{LEAVES_MAX}
use Rattle.worm_core.specs.declared.walker.Walker.{Walker}
use Rattle.worm_core.proofs.HalfLemmas.{halves-are}
use Rattle.worm_core.proofs.SoundLemmas.{LeafSound, WalkerSound, Sound}
use Rattle.worm_core.proofs.SplitLemmas.{sound-split}
use Rattle.worm_core.proofs.StepLemmas.{sound-opening, sound-put, sound-publish, sound-walker, sound-enter, sound-right}
use Rattle.worm_core.proofs.TableLemmas.{passed-within}

-- ---- the induction

by_put : (puts : List Pair) (w : World) (number : ℕ) (pair : Pair) (leaves : List LeafState) → Sound puts w → Puts w.leaves w.walkers number pair leaves → Sound (pair ∷ puts) (record w { leaves = leaves })
by_put puts w number pair leaves s p =
    subst (λ (l : List LeafState). Sound (pair ∷ puts) (record w { leaves = l })) (sym p.effect)
    (sound-put puts w p.walker.leaf p.leaf pair s p.stands.on (subst (λ (k : List ℕ). covers p.leaf k ≡ true) (sym p.same_key) p.inside))

by_split : (puts : List Pair) (w : World) (number : ℕ) (leaves : List LeafState) (splits : List Anchored) → Sound puts w → SplitsLeaf w.leaves w.splits number leaves splits → Sound puts (record w { leaves = leaves; splits = splits })
by_split puts w number leaves splits s p =
    let l = s.each number p.leaf p.at in
    let is : IsLeaf p.leaf = record { rises = l.rises; covered = l.covered; most = let f = p.full in omega arith } in
    subst (λ (t : List LeafState × List Anchored). Sound puts (record w { leaves = t.0; splits = t.1 })) (λ i. (sym p.effect i, sym p.told i))
    (sound-split puts w number p.leaf p.anchor s p.at p.few (halves-are p.leaf p.anchor is p.full p.parts))

by_right : (puts : List Pair) (w : World) (number right : ℕ) (walkers : List (ℕ × Walker)) → Sound puts w → GoesRight w.leaves w.walkers number right walkers → Sound puts (record w { walkers = walkers })
by_right puts w number right walkers s p =
    subst (λ (l : List (ℕ × Walker)). Sound puts (record w { walkers = l })) (sym p.effect)
    (sound-walker puts w number (moved p.walker right) s (sound-right puts w p.walker p.leaf right s (s.walkers number p.walker p.stands.is) p.stands.on p.outside p.neighbour))

sound-step : (puts : List Pair) (w : World) (e : LeafEvent) (a : LeafAnswer) (next : World) → Sound puts w → StepsTo w e a next → Sound (put_by puts e) next
sound-step puts w (events.Put number pair) a next s (leaves, p, done, is) = subst (Sound (pair ∷ puts)) (sym is) (by_put puts w number pair leaves s p)
sound-step puts w (events.Split number) a next s (leaves, splits, p, done, is) = subst (Sound puts) (sym is) (by_split puts w number leaves splits s p)
sound-step puts w (events.Publish adds) a next s (p, done, is) = subst (Sound puts) (sym is) (sound-publish puts w adds s p.upto)
sound-step puts w (events.Enter number key) a next s (told, is) = subst (Sound puts) (sym is) (sound-walker puts w number (entered w.splits w.published key) s (sound-enter puts w key s))
sound-step puts w (events.Right number) a next s (right, walkers, p, told, is) = subst (Sound puts) (sym is) (by_right puts w number right walkers s p)
sound-step puts w (events.Answer number) a next s (p, is) = subst (Sound puts) (sym is) s

sound-run : (es : List LeafEvent) (more : List LeafAnswer) (puts : List Pair) (w next : World) → Sound puts w → RunsTo w es more next → Sound (puts_of puts es) next
sound-run [] [] puts w next s is = subst (Sound puts) (sym is) s
sound-run [] (a ∷ more) puts w next s none = absurd none
sound-run (e ∷ es) [] puts w next s none = absurd none
sound-run (e ∷ es) (a ∷ more) puts w next s (mid, one, rest) = sound-run es more (put_by puts e) mid next (sound-step puts w e a mid s one) rest

-- ---- an answer is right

-- a walker went right no more often than there are splits that its table lacked
few_rights : (w : World) (walker : Walker) → WalkerSound w.leaves w.splits walker → walker.rights + walker.adds ≤ length w.splits
few_rights w walker k =
    let p = passed-within k.leaf.low (drop walker.adds w.splits) in
    omega (arith, k.lacked, k.adds, length-drop walker.adds w.splits)

abbrev found_leaf : LeafAnswer → ℕ
found_leaf answers.Done = 0
found_leaf (answers.At leaf) = 0
found_leaf (answers.Found leaf change rights) = leaf

abbrev found_change : LeafAnswer → Option Change
found_change answers.Done = None
found_change (answers.At leaf) = None
found_change (answers.Found leaf change rights) = change

abbrev found_rights : LeafAnswer → ℕ
found_rights answers.Done = 0
found_rights (answers.At leaf) = 0
found_rights (answers.Found leaf change rights) = rights

is_right : (puts : List Pair) (w next : World) (number leaf rights : ℕ) (change : Option Change) → Sound puts w → StepsTo w (events.Answer number) (answers.Found leaf change rights) next → IsRight puts w number leaf change rights
is_right puts w next number leaf rights change s (p, is) = record {
  walker = p.walker;
  leaf = p.leaf;
  stands = p.stands;
  same_leaf = ap found_leaf p.told;
  inside = p.inside;
  newest = ap found_change p.told ∙ (s.each p.walker.leaf p.leaf p.stands.on).changes p.walker.key p.inside;
  few = rw (ap found_rights p.told) (few_rights w p.walker (s.walkers number p.walker p.stands.is));
}

pub answers-right : AnswersAreRight
answers-right es more w next number leaf rights change run told = is_right (puts_of [] es) w next number leaf rights change (sound-run es more [] opening w sound-opening run) told

-- ---- no walk is stuck

goes : (puts : List Pair) (w : World) (number : ℕ) (walker : Walker) (leaf : LeafState) → Sound puts w → Stands w.leaves w.walkers number walker leaf → covers leaf walker.key ≡ false → (right : ℕ) × IsRightOf w.leaves leaf right
goes puts w number walker leaf s on out =
    let k = s.walkers number walker on.is in
    let from : NotBelow walker.key leaf.low = subst (λ (x : LeafState). NotBelow walker.key x.low) (some_injective k.leaf leaf (sym k.on ∙ on.on)) k.from in
    by_high leaf.high refl from (s.each walker.leaf leaf on.on) out
  where
    by_high : (high : Option (List ℕ)) → leaf.high ≡ high → NotBelow walker.key leaf.low → LeafSound puts w.leaves leaf → in_range leaf.low leaf.high walker.key ≡ false → (right : ℕ) × IsRightOf w.leaves leaf right
    by_high None e from l off =
        let all : in_range leaf.low None walker.key ≡ true = range_to leaf.low None walker.key from tt in
        let no_range : in_range leaf.low None walker.key ≡ false = subst (λ (o : Option (List ℕ)). in_range leaf.low o walker.key ≡ false) e off in
        let never : true ≡ false = sym all ∙ no_range in absurd cc
    by_high (Some high) e from l off =
        let n = (l.neighbour high e).1 in
        (n.0, record { other = n.1.leaf; at = n.1.at; meets = e ∙ ap Some (sym n.1.is) })

pub rights-go : RightsGo
rights-go es more w number walker leaf run on out = goes (puts_of [] es) w number walker leaf (sound-run es more [] opening w sound-opening run) on out

goes_on : (puts : List Pair) (w : World) (number : ℕ) (walker : Walker) → Sound puts w → walker_at w.walkers number ≡ Some walker → GoesOn w number walker
goes_on puts w number walker s is =
    let k = s.walkers number walker is in
    let on : Stands w.leaves w.walkers number walker k.leaf = record { is = is; on = k.on } in record {
      leaf = k.leaf;
      stands = on;
      few = few_rights w walker k;
      ends = let f = few_rights w walker k in omega (arith, s.count, s.most);
      answers = λ inside. (
        answers.Found walker.leaf (change_at k.leaf.pairs walker.key) walker.rights,
        w,
        (record { walker = walker; leaf = k.leaf; stands = on; inside = inside; told = refl }, refl),
      );
      rights = λ out.
          let n = goes puts w number walker k.leaf s on out in
          let walkers = with_walker w.walkers number (moved walker n.0) in (
            answers.At n.0,
            record w { walkers = walkers },
            (
              n.0,
              walkers,
              record { walker = walker; leaf = k.leaf; stands = on; outside = out; neighbour = n.1; effect = refl },
              refl,
              refl,
            ),
          );
    }

pub walks-go_on : WalksGoOn
walks-go_on es more w number walker run is = goes_on (puts_of [] es) w number walker (sound-run es more [] opening w sound-opening run) is

-- ---- worlds that are reached

pub reached-opening : IsReached opening
reached-opening = ([], [], refl)

pub runs-more : (es : List LeafEvent) (more : List LeafAnswer) (w mid next : World) (e : LeafEvent) (a : LeafAnswer) → RunsTo w es more mid → StepsTo mid e a next → RunsTo w (es ++ e ∷ []) (more ++ a ∷ []) next
runs-more [] [] w mid next e a is step = (next, subst (λ (x : World). StepsTo x e a next) is step, refl)
runs-more [] (b ∷ more) w mid next e a none step = absurd none
runs-more (d ∷ es) [] w mid next e a none step = absurd none
runs-more (d ∷ es) (b ∷ more) w mid next e a (one, first, rest) step = (one, first, runs-more es more one mid next e a rest step)

pub reached-step : (w next : World) (e : LeafEvent) (a : LeafAnswer) → IsReached w → StepsTo w e a next → IsReached next
reached-step w next e a (es, more, run) step = (es ++ e ∷ [], more ++ a ∷ [], runs-more es more opening w next e a run step)

reached_sound : (w : World) → (r : IsReached w) → Sound (puts_of [] r.0) w
reached_sound w r = sound-run r.0 r.1 [] opening w sound-opening r.2

-- no more splits are published than there are; there are at most so many leaves, and a walker went right less often
pub reached-published : (w : World) → IsReached w → w.published ≤ length w.splits
reached-published w r = (reached_sound w r).published

pub reached-leaves : (w : World) → IsReached w → length w.leaves ≤ LEAVES_MAX
reached-leaves w r = (reached_sound w r).most

pub reached-rights : (w : World) (number : ℕ) (walker : Walker) → IsReached w → walker_at w.walkers number ≡ Some walker → walker.rights < LEAVES_MAX
reached-rights w number walker r is =
    let s = reached_sound w r in
    let f = few_rights w walker (s.walkers number walker is) in
    omega (arith, s.count, s.most)
