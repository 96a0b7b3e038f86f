-- Notes, what a pass learns from a note or a leaf, and what a later note says of a leaf. To know: `Goes-note`, `Goes-learn`, `Goes-look`, `Goes-compare`.
use Rattle.std.proofs.Common.{◌≡◌, ℕ, ◌≤◌, ◌<◌, ◌==◌, List, [], ◌∷◌, length, take, drop, get_or, refl, sym, ◌∙◌, subst, arith}
use Rattle.std.proofs.lemmas.List.{length-take-le, take-append-drop}
use mathlib.Core.List.{IsPrefix}
use Rattle.seat_parts.specs.Seats.{Goes}
use Rattle.rdb_base.specs.Histories.{calls_of}
use Rattle.rdb_base.specs.declared.entry.Entry.{Entry}
use Rattle.front_rule.specs.Parts.{base_of, end_of, entries_in}
use Rattle.front_rule.specs.Rule.{NoteFits, PassFits, IsWell, SoundWith, Sound}
use Rattle.front_rule.specs.Known.{longer, learnt, note_of_pen, note_of_pass, note_of_leaf, note_of_base, until_end}
use Rattle.front_rule.specs.Steps.{CanNote, Notes, GoesForward, CanLearn, Learns, CanLook, Looks, CanCompare, Compares}
use Rattle.front_rule.specs.declared.parts.PenPart.{PenPart}
use Rattle.front_rule.specs.declared.parts.PassPart.{PassPart}
use Rattle.front_rule.specs.declared.parts.NotePart.{NotePart}
use Rattle.front_rule.specs.declared.parts.LivePart.{LivePart}
use Rattle.front_rule.specs.declared.parts.Part.{Part}
use Rattle.front_rule.specs.declared.parts.Part.TheVariants as part
use Rattle.rdb_base.proofs.PrefixLemmas.{prefix_trans, prefix_shorter, squeeze}
use Rattle.front_rule.proofs.BaseLemmas.{base_of-prefix, end_of-climbs, end_of-known, end_of-reached}
use Rattle.front_rule.proofs.RuleLemmas.{SoundWith-pen, IsShared-same}
use Rattle.front_rule.proofs.StandsLemmas.{length-longer, IsPrefix-longer_first, IsPrefix-longer_second, Stands-whole, Stands-base, Stands-longer, GoesOn-between, entries_in-between}

-- ---- one more note

SoundWith-note : (first n : ℕ) (g : PenPart) (k : LivePart) (x : Part) (t : NotePart) (others : List Part) → NoteFits g t → SoundWith first n g k (x ∷ others) → SoundWith first n g k (x ∷ part.Note t ∷ others)
SoundWith-note first n g k x t others fits s = record {
  word_is = s.word_is;
  well = s.well;
  shared = IsShared-same g (x ∷ others) (x ∷ part.Note t ∷ others) (omega arith) (omega arith) (λ c. omega arith) (λ m key. omega arith) s.shared;
  fit = (s.fit.0, (fits, s.fit.1));
  upto = (s.upto.0, (tt, s.upto.1));
}

pub Goes-note : (first : ℕ) (v : List Part) → CanNote first v → Goes (Sound first) v (λ n. n) (Notes first v)
Goes-note first (part.Pen p ∷ []) can n others s =
    let h = SoundWith-pen first n p others s in
    let t = note_of_pen p in
    let fits : NoteFits p t = record { stands = Stands-whole first p h.1.well; safe = omega arith } in
    (part.Pen p ∷ part.Note t ∷ [], record { pen = p; keeper = h.0; rule = SoundWith-note first n p h.0 (part.Pen p) t others fits h.1 }, refl)
Goes-note first (part.Pass a ∷ []) can n others s =
    let t = note_of_pass a in
    let f = s.rule.fit.0 in
    let fits : NoteFits s.pen t = record { stands = f.stands; safe = f.safe } in
    (part.Pass a ∷ part.Note t ∷ [], record { pen = s.pen; keeper = s.keeper; rule = SoundWith-note first n s.pen s.keeper (part.Pass a) t others fits s.rule }, refl)
Goes-note first (part.Leaf l ∷ []) can n others s =
    let t = note_of_base l in
    let f = s.rule.fit.0.stands in
    let fits : NoteFits s.pen t = record {
      stands = Stands-base first s.pen l.memtable l.bases l.list s.rule.well f;
      safe = base_of-prefix s.pen.safe l.bases s.pen.bases f.bases_is s.rule.well.bases;
    } in
    (part.Leaf l ∷ part.Note t ∷ [], record { pen = s.pen; keeper = s.keeper; rule = SoundWith-note first n s.pen s.keeper (part.Leaf l) t others fits s.rule }, (refl, length-take-le (base_of l.bases) l.list f.from))
Goes-note first (part.Note t ∷ []) can n others s =
    (part.Note t ∷ part.Note t ∷ [], record { pen = s.pen; keeper = s.keeper; rule = SoundWith-note first n s.pen s.keeper (part.Note t) t others s.rule.fit.0 s.rule }, refl)
Goes-note first v can n others s = absurd can

-- ---- a pass learns

-- between what it had seen and the whole list its caller's calls are its own: so they are in what it then sees
PassFits-learnt : (first : ℕ) (g : PenPart) (a : PassPart) (t : NotePart) → IsWell first g → PassFits g a → NoteFits g t → PassFits g (learnt a t)
PassFits-learnt first g a t well f s =
    let stands = Stands-longer first g a.memtable a.bases a.seen t.memtable t.bases t.list well f.stands s.stands in
    let seen = longer a.seen t.list in
    let own : calls_of seen a.caller ≡ calls_of a.seen a.caller =
    squeeze (λ (e : Entry). e.caller == a.caller) 0 a.seen seen g.list (omega arith) (IsPrefix-longer_first a.seen t.list g.list f.stands.list_is s.stands.list_is) stands.list_is (f.calls ∙ sym f.seen_calls) in
    record {
      stands = stands;
      calls = f.calls;
      seen_calls = own ∙ f.seen_calls;
      safe = let q = f.safe in let r = s.safe in omega arith;
      told = f.told;
    }

GoesForward-learnt : (first : ℕ) (g : PenPart) (a : PassPart) (t : NotePart) → IsWell first g → PassFits g a → NoteFits g t → GoesForward a t
GoesForward-learnt first g a t well f s =
    let b = learnt a t in
    let fits = PassFits-learnt first g a t well f s in
    let more = length-longer a.bases t.bases in
    record {
      seen = IsPrefix-longer_first a.seen t.list g.list f.stands.list_is s.stands.list_is;
      noted = IsPrefix-longer_second a.seen t.list g.list f.stands.list_is s.stands.list_is;
      own = fits.seen_calls;
      seen_on = GoesOn-between g a.memtable a.bases a.seen b.memtable b.bases b.seen f.stands fits.stands (omega arith);
      noted_on = GoesOn-between g t.memtable t.bases t.list b.memtable b.bases b.seen s.stands fits.stands (omega arith);
    }

pub Goes-learn : (first : ℕ) (v : List Part) → CanLearn first v → Goes (Sound first) v (λ n. n) (Learns first v)
Goes-learn first (part.Pass a ∷ part.Note t ∷ []) can n others s =
    let g = s.pen in
    let r = s.rule in
    let b = learnt a t in (
      part.Pass b ∷ [],
      record {
        pen = g;
        keeper = s.keeper;
        rule = record {
          word_is = r.word_is;
          well = r.well;
          shared = IsShared-same g (part.Pass a ∷ part.Note t ∷ others) (part.Pass b ∷ others) (omega arith) (omega arith) (λ c. omega arith) (λ m key. omega arith) r.shared;
          fit = (PassFits-learnt first g a t r.well r.fit.0 r.fit.1.0, r.fit.1.1);
          upto = (r.upto.0, r.upto.1.1);
        };
      },
      (refl, GoesForward-learnt first g a t r.well r.fit.0 r.fit.1.0),
    )
Goes-learn first v can n others s = absurd can

pub Goes-look : (first : ℕ) (v : List Part) → CanLook first v → Goes (Sound first) v (λ n. n) (Looks first v)
Goes-look first (part.Pass a ∷ part.Leaf l ∷ []) can n others s =
    let g = s.pen in
    let r = s.rule in
    let t = note_of_leaf l in
    let b = learnt a t in
    let pass = r.fit.0 in
    let leaf = r.fit.1.0 in
    let note : NoteFits g t = record { stands = leaf.stands; safe = omega arith } in
    let fits = PassFits-learnt first g a t r.well pass note in
    let forward = GoesForward-learnt first g a t r.well pass note in (
      part.Pass b ∷ part.Leaf l ∷ [],
      record {
        pen = g;
        keeper = s.keeper;
        rule = record {
          word_is = r.word_is;
          well = r.well;
          shared = IsShared-same g (part.Pass a ∷ part.Leaf l ∷ others) (part.Pass b ∷ part.Leaf l ∷ others) (omega arith) (omega arith) (λ c. omega arith) (λ m key. omega arith) r.shared;
          fit = (fits, r.fit.1);
          upto = r.upto;
        };
      },
      (
        refl,
        forward,
        λ below. entries_in-between g l b.seen leaf forward.noted fits.stands.list_is
            (let u = fits.stands.upto in let k = length-longer a.bases l.bases in let m = pass.stands.number in let j = leaf.stands.number in
            let c = end_of-climbs first g (longer a.bases l.bases) l.bases r.well (omega arith) in omega arith),
      ),
    )
Goes-look first v can n others s = absurd can

-- ---- a note of a later memtable goes past the end of the leaf's

pub Goes-compare : (first : ℕ) (v : List Part) → CanCompare first v → Goes (Sound first) v (λ n. n) (Compares first v)
unfolding until_end
Goes-compare first (part.Note t ∷ part.Leaf l ∷ []) can n others s =
    let g = s.pen in
    let note = s.rule.fit.0.stands in
    let f = s.rule.fit.1.0 in
    let leaf = f.stands in
    let more : length l.bases < length t.bases = let p = note.number in let q = leaf.number in omega arith in
    let end : end_of g l.bases ≡ get_or t.bases (length l.bases) 0 = end_of-known g l.bases t.bases note.bases_is more in
    let reached : end_of g l.bases ≤ length t.list = end_of-reached first g l.bases t.bases (length t.list) s.rule.well more note.bases_is note.from in
    let cutoff = take (end_of g l.bases) t.list in
    let size : length cutoff ≡ end_of g l.bases = length-take-le (end_of g l.bases) t.list reached in
    let cut_is : IsPrefix cutoff t.list = (drop (end_of g l.bases) t.list, take-append-drop (end_of g l.bases) t.list) in
    let whole : IsPrefix cutoff g.list = prefix_trans cutoff t.list g.list cut_is note.list_is in
    let begins : IsPrefix l.list cutoff = prefix_shorter l.list cutoff g.list leaf.list_is whole (let u = leaf.upto in omega (arith, size)) in
    let has : entries_in l cutoff ≡ entries_in l l.list = entries_in-between g l cutoff f begins whole (omega (arith, size)) in (
      part.Note t ∷ part.Leaf l ∷ [],
      s,
      (
        refl,
        subst (λ (k : ℕ). entries_in l (take k t.list) ≡ entries_in l l.list) end has,
        subst (λ (k : ℕ). IsPrefix l.list (take k t.list)) end begins,
        subst (λ (k : ℕ). k ≤ length t.list) end reached,
        GoesOn-between g l.memtable l.bases l.list t.memtable t.bases t.list leaf note (omega arith),
      ),
    )
Goes-compare first v can n others s = absurd can
