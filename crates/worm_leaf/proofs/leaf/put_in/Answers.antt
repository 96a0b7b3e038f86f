use Rattle.std.proofs.Common.{◌≡◌, ◌+◌, ℕ, List, true, false, get_or, set, take, drop, sym, ap, ◌∙◌, subst, ◌⊎◌, inl, inr}
use Rattle.std.specs.Prelude.{◌++◌, ◌∷◌, Some, None, is_ok, is_some, if◌then◌else◌}
use Rattle.rdb_base.specs.Runs.{change_at}
use Rattle.rdb_base.specs.Searches.{IsPlaceOf}
use Rattle.rdb_base.specs.declared.pair.Pair.{Pair}
use Rattle.rdb_base.proofs.KeyOrder.{same_key}
use Rattle.worm_leaf.specs.Leaves.{is_key_at}
use Rattle.worm_leaf.proofs.KeyPlaceLemmas.{change_at-here, change_at-absent, with_pair-here, with_pair-absent, key-here}
use Rattle.worm_leaf.proofs.leaf.put_in.Goals as goal

pub returns-then-has_key_at-clause-set : goal.returns-then-has_key_at-clause-set
returns-then-has_key_at-clause-set c =
    let items = c.args.pairs.now.items in
    let pair = c.args.pair in
    let place = c.place_in-place.result in
    let d = c.index_mut.result.now in
    let at : IsPlaceOf items pair.key place = subst (λ (run : List Pair). IsPlaceOf run pair.key place) c.as_slice.ensures.value c.place_in-place.ensures in
    let is : is_key_at items pair.key place ≡ true = ap (λ (run : List Pair). is_key_at run pair.key place) (sym c.as_slice-2.ensures.value) ∙ sym c.has_key_at.ensures ∙ c.if-has_key_at.true in
    let key : c.index_mut.result.now.key ≡ pair.key = ap (λ (p : Pair). p.key) c.index_mut.ensures.value ∙ same_key (get_or items place d).key pair.key (key-here items pair.key place d is) in
    let change : c.replace.new.dest ≡ pair.change = c.replace.ensures.after in
    ap (set items place) (λ i. record { key = key i; change = change i }) ∙ sym (with_pair-here items pair place c.requires.rises at is)

pub returns-then-has_key_at-clause-old : goal.returns-then-has_key_at-clause-old
returns-then-has_key_at-clause-old c =
    let items = c.args.pairs.now.items in
    let pair = c.args.pair in
    let place = c.place_in-place.result in
    let d = c.index_mut.result.now in
    let at : IsPlaceOf items pair.key place = subst (λ (run : List Pair). IsPlaceOf run pair.key place) c.as_slice.ensures.value c.place_in-place.ensures in
    let is : is_key_at items pair.key place ≡ true = ap (λ (run : List Pair). is_key_at run pair.key place) (sym c.as_slice-2.ensures.value) ∙ sym c.has_key_at.ensures ∙ c.if-has_key_at.true in
    let old : c.replace.result ≡ (get_or items place d).change = c.replace.ensures.value ∙ ap (λ (p : Pair). p.change) c.index_mut.ensures.value in
    ap Some old ∙ sym (change_at-here items pair.key place d c.requires.rises at is)

-- the key is not there, so there is room
room-for : {A : Type 0} (items : List Pair) (key : List ℕ) → A ⊎ (is_some (change_at items key) ≡ true) → change_at items key ≡ None → A
room-for items key (inl room) none = room
room-for items key (inr some) none = absurd (let f = sym some ∙ ap is_some none in cc)

pub unwrap-requires : goal.unwrap-requires
unwrap-requires c =
    let items = c.args.pairs.now.items in
    let pair = c.args.pair in
    let place = c.place_in-place.result in
    let at : IsPlaceOf items pair.key place = subst (λ (run : List Pair). IsPlaceOf run pair.key place) c.as_slice.ensures.value c.place_in-place.ensures in
    let is : is_key_at items pair.key place ≡ false = ap (λ (run : List Pair). is_key_at run pair.key place) (sym c.as_slice-2.ensures.value) ∙ sym c.has_key_at.ensures ∙ c.if-has_key_at.false in
    c.insert.ensures.succeeds (room-for items pair.key c.requires.room (change_at-absent items pair.key place c.requires.rises at is))

pub returns-clause-capacity : goal.returns-clause-capacity
returns-clause-capacity c =
    let items = c.args.pairs.now.items in
    let pair = c.args.pair in
    let place = c.place_in-place.result in
    let at : IsPlaceOf items pair.key place = subst (λ (run : List Pair). IsPlaceOf run pair.key place) c.as_slice.ensures.value c.place_in-place.ensures in
    let is : is_key_at items pair.key place ≡ false = ap (λ (run : List Pair). is_key_at run pair.key place) (sym c.as_slice-2.ensures.value) ∙ sym c.has_key_at.ensures ∙ c.if-has_key_at.false in
    (c.insert.ensures.in_place (room-for items pair.key c.requires.room (change_at-absent items pair.key place c.requires.rises at is))).1.0

pub returns-clause-set : goal.returns-clause-set
returns-clause-set c =
    let items = c.args.pairs.now.items in
    let pair = c.args.pair in
    let place = c.place_in-place.result in
    let at : IsPlaceOf items pair.key place = subst (λ (run : List Pair). IsPlaceOf run pair.key place) c.as_slice.ensures.value c.place_in-place.ensures in
    let is : is_key_at items pair.key place ≡ false = ap (λ (run : List Pair). is_key_at run pair.key place) (sym c.as_slice-2.ensures.value) ∙ sym c.has_key_at.ensures ∙ c.if-has_key_at.false in
    c.insert.ensures.items ∙ ap (λ r. if is_ok r then take place items ++ pair ∷ drop place items else items) c.unwrap.ensures ∙ sym (with_pair-absent items pair place c.requires.rises at is)

pub returns-clause-old : goal.returns-clause-old
returns-clause-old c =
    let items = c.args.pairs.now.items in
    let pair = c.args.pair in
    let place = c.place_in-place.result in
    let at : IsPlaceOf items pair.key place = subst (λ (run : List Pair). IsPlaceOf run pair.key place) c.as_slice.ensures.value c.place_in-place.ensures in
    let is : is_key_at items pair.key place ≡ false = ap (λ (run : List Pair). is_key_at run pair.key place) (sym c.as_slice-2.ensures.value) ∙ sym c.has_key_at.ensures ∙ c.if-has_key_at.false in
    sym (change_at-absent items pair.key place c.requires.rises at is)
