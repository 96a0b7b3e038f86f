-- Fronts of the list that end in a memtable, and what leaves have in them. To know: `Stands-whole`, `Stands-longer`, `GoesOn-pen`, `GoesOn-between`, `entries_in-between`.
use Rattle.std.proofs.Common.{◌≡◌, ◌⊎◌, inl, inr, ⊎_elim, ℕ, ◌≤◌, ◌<◌, max, nat_lt, Bool, true, false, cond, List, length, take, drop, refl, ap, sym, ◌∙◌, subst, arith}
use Rattle.std.proofs.lemmas.List.{length-take-le, length-take, take_all, take-append-drop}
use Rattle.std.proofs.lemmas.Bool.Decides.{nat_tests}
use mathlib.Core.List.{IsPrefix}
use Rattle.rdb_base.proofs.PrefixLemmas.{prefix_self, prefix_trans, prefix_length, prefix_shorter, prefix_whole, squeeze}
use Rattle.rdb_base.specs.declared.entry.Entry.{Entry}
use Rattle.rdb_base.specs.Ranges.{in_range}
use Rattle.front_rule.specs.Parts.{base_of, end_of, entries_in, Stands}
use Rattle.front_rule.specs.Rule.{LeafFits, IsWell}
use Rattle.front_rule.specs.Known.{longer, GoesOn}
use Rattle.front_rule.specs.declared.parts.PenPart.{PenPart}
use Rattle.front_rule.specs.declared.parts.LeafPart.{LeafPart}
use Rattle.front_rule.proofs.BaseLemmas.{get_or-past, base_of-within, end_of-climbs}

-- ---- the longer of two lists

pub longer-cases : {A : Type 0} (xs ys : List A) → ((length ys < length xs) × (longer xs ys ≡ xs)) ⊎ ((length xs ≤ length ys) × (longer xs ys ≡ ys))
longer-cases xs ys = by_length (nat_lt (length ys) (length xs)) refl
  where
    by_length : (b : Bool) → nat_lt (length ys) (length xs) ≡ b → ((length ys < length xs) × (longer xs ys ≡ xs)) ⊎ ((length xs ≤ length ys) × (longer xs ys ≡ ys))
    by_length true e = inl (grind (arith, nat_tests), ap (λ (t : Bool). cond t xs ys) e)
    by_length false e = inr (grind (arith, nat_tests), ap (λ (t : Bool). cond t xs ys) e)

-- what holds of both holds of the longer
pub longer-either : {A : Type 0} (P : List A → Type 0) (xs ys : List A) → P xs → P ys → P (longer xs ys)
longer-either P xs ys p q = ⊎_elim (λ h. subst P (sym h.1) p) (λ h. subst P (sym h.1) q) (longer-cases xs ys)

pub length-longer : {A : Type 0} (xs ys : List A) → length (longer xs ys) ≡ max (length xs) (length ys)
length-longer xs ys = ⊎_elim (λ h. omega (arith, ap length h.1, h.0)) (λ h. omega (arith, ap length h.1, h.0)) (longer-cases xs ys)

-- two fronts of one list are both fronts of the longer
pub IsPrefix-longer_first : {A : Type 0} (xs ys zs : List A) → IsPrefix xs zs → IsPrefix ys zs → IsPrefix xs (longer xs ys)
IsPrefix-longer_first xs ys zs p q =
    ⊎_elim (λ h. subst (λ l. IsPrefix xs l) (sym h.1) (prefix_self xs)) (λ h. subst (λ l. IsPrefix xs l) (sym h.1) (prefix_shorter xs ys zs p q h.0)) (longer-cases xs ys)

pub IsPrefix-longer_second : {A : Type 0} (xs ys zs : List A) → IsPrefix xs zs → IsPrefix ys zs → IsPrefix ys (longer xs ys)
IsPrefix-longer_second xs ys zs p q =
    ⊎_elim (λ h. subst (λ l. IsPrefix ys l) (sym h.1) (prefix_shorter ys xs zs q p (omega (arith, h.0)))) (λ h. subst (λ l. IsPrefix ys l) (sym h.1) (prefix_self ys)) (longer-cases xs ys)

-- ---- fronts that end in a memtable

-- all that the pen knows
pub Stands-whole : (first : ℕ) (g : PenPart) → IsWell first g → Stands g g.memtable g.bases g.list
Stands-whole first g well = record {
  list_is = prefix_self g.list;
  bases_is = prefix_self g.bases;
  some_base = well.some_base;
  number = refl;
  from = let b = base_of-within g.safe g.bases well.bases in let s = well.safe in omega arith;
  upto = let e = get_or-past g.bases (length g.bases) (length g.list) (omega arith) in omega (arith, e);
}

-- one that ends in the open memtable has all bases
pub Stands-open : (g : PenPart) (m : ℕ) (bases : List ℕ) (list : List Entry) → Stands g m bases list → m ≡ g.memtable → bases ≡ g.bases
Stands-open g m bases list s is = prefix_whole bases g.bases s.bases_is (let n = s.number in omega arith)

-- the list up to its memtable's base
pub Stands-base : (first : ℕ) (g : PenPart) (m : ℕ) (bases : List ℕ) (list : List Entry) → IsWell first g → Stands g m bases list → Stands g m bases (take (base_of bases) list)
Stands-base first g m bases list well s =
    let size : length (take (base_of bases) list) ≡ base_of bases = length-take-le (base_of bases) list s.from in
    record {
      list_is = prefix_trans (take (base_of bases) list) list g.list (drop (base_of bases) list, take-append-drop (base_of bases) list) s.list_is;
      bases_is = s.bases_is;
      some_base = s.some_base;
      number = s.number;
      from = omega (arith, size);
      upto = let u = s.upto in let f = s.from in omega (arith, size);
    }

-- of two fronts that end in their memtables, the longer ends in the later memtable
pub Stands-longer : (first : ℕ) (g : PenPart) (m : ℕ) (b : List ℕ) (xs : List Entry) (n : ℕ) (c : List ℕ) (ys : List Entry) → IsWell first g → Stands g m b xs → Stands g n c ys
    → Stands g (max m n) (longer b c) (longer xs ys)
Stands-longer first g m b xs n c ys well s t =
    let size = length-longer xs ys in
    let more = length-longer b c in
    record {
      list_is = longer-either (λ l. IsPrefix l g.list) xs ys s.list_is t.list_is;
      bases_is = longer-either (λ l. IsPrefix l g.bases) b c s.bases_is t.bases_is;
      some_base = let p = s.some_base in omega arith;
      number = let p = s.number in let q = t.number in omega arith;
      from = longer-either (λ l. base_of l ≤ length (longer xs ys)) b c (let p = s.from in omega arith) (let p = t.from in omega arith);
      upto = longer-either (λ l. length l ≤ end_of g (longer b c)) xs ys
          (let p = s.upto in let q = end_of-climbs first g b (longer b c) well (omega arith) in omega arith)
          (let p = t.upto in let q = end_of-climbs first g c (longer b c) well (omega arith) in omega arith);
    }

-- ---- memtables go on

-- from the memtable in which a front ends to the open one
pub GoesOn-pen : (g : PenPart) (m : ℕ) (bases : List ℕ) (list : List Entry) → Stands g m bases list → GoesOn m bases g.memtable g.bases
GoesOn-pen g m bases list s = record { bases = s.bases_is; numbers = s.number }

-- from one to another that knows as many bases
pub GoesOn-between : (g : PenPart) (m : ℕ) (b : List ℕ) (xs : List Entry) (n : ℕ) (c : List ℕ) (ys : List Entry) → Stands g m b xs → Stands g n c ys → length b ≤ length c → GoesOn m b n c
GoesOn-between g m b xs n c ys s t le = record {
  bases = prefix_shorter b c g.bases s.bases_is t.bases_is le;
  numbers = let p = s.number in let q = t.number in omega arith;
}

-- ---- what a leaf has

-- between what the leaf has seen and its memtable's end there is no other entry of its range
pub entries_in-between : (g : PenPart) (l : LeafPart) (xs : List Entry) → LeafFits g l → IsPrefix l.list xs → IsPrefix xs g.list → length xs ≤ end_of g l.bases → entries_in l xs ≡ entries_in l l.list
unfolding entries_in
entries_in-between g l xs f p q within =
    let whole = take (end_of g l.bases) g.list in
    let whole_is : IsPrefix whole g.list = (drop (end_of g l.bases) g.list, take-append-drop (end_of g l.bases) g.list) in
    let size : length xs ≤ length whole = let h = prefix_length xs g.list q in omega (arith, length-take (end_of g l.bases) g.list) in
    squeeze (λ (e : Entry). in_range l.low l.high e.key) (base_of l.bases) l.list xs whole f.stands.from p (prefix_shorter xs whole g.list q whole_is size) f.has

-- a leaf of the open memtable has all entries of its range up to the list's end
pub entries_in-open : (p : PenPart) (l : LeafPart) → LeafFits p l → l.bases ≡ p.bases → entries_in l p.list ≡ entries_in l l.list
entries_in-open p l fits bases =
    let last : end_of p l.bases ≡ length p.list = ap (λ b. end_of p b) bases ∙ get_or-past p.bases (length p.bases) (length p.list) (omega arith) in
    sym (ap (entries_in l) (ap (λ j. take j p.list) last ∙ take_all (length p.list) p.list (omega arith))) ∙ fits.has
