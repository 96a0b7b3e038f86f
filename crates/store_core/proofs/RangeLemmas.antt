-- Parts of a history's list. To know: `after-grown`, `range-grown`, `after-range`.
use Rattle.std.proofs.Common.{◌≡◌, ℕ, zero, suc, ◌+◌, ◌-◌, ◌≤◌, List, [], ◌∷◌, ◌++◌, length, take, drop, refl, sym, ap, ◌∙◌, arith, length-append}
use Rattle.rdb_base.specs.Maps.{applied_all}
use Rattle.rdb_base.specs.Histories.{History, after, end}
use Rattle.rdb_base.specs.declared.entry.Entry.{Entry}
use Rattle.rdb_base.proofs.HistoryLemmas.{applied_all-append}
use Rattle.store_core.specs.Steps.{grown_by}
use Rattle.store_core.specs.Worlds.{range}

take-front : {X : Type 0} (n : ℕ) (xs ys : List X) → n ≤ length xs → take n (xs ++ ys) ≡ take n xs
take-front zero xs ys h = refl
take-front (suc n) [] ys h = absurd (omega arith)
take-front (suc n) (x ∷ xs) ys h = ap (λ t. x ∷ t) (take-front n xs ys (omega arith))

drop-front : {X : Type 0} (n : ℕ) (xs ys : List X) → n ≤ length xs → drop n (xs ++ ys) ≡ drop n xs ++ ys
drop-front zero xs ys h = refl
drop-front (suc n) [] ys h = absurd (omega arith)
drop-front (suc n) (x ∷ xs) ys h = drop-front n xs ys (omega arith)

length-drop : {X : Type 0} (n : ℕ) (xs : List X) → length (drop n xs) + n ≡ length xs + (n - length xs)
length-drop zero xs = omega arith
length-drop (suc n) [] = omega arith
length-drop (suc n) (x ∷ xs) = let h = length-drop n xs in omega arith

take-nothing : {X : Type 0} (n : ℕ) (xs : List X) → xs ≡ [] → take n xs ≡ xs
take-nothing zero [] e = refl
take-nothing (suc n) [] e = refl
take-nothing n (x ∷ xs) e = absurd cc

take-drop : {X : Type 0} (a b : ℕ) (xs : List X) → a ≤ b → take a xs ++ take (b - a) (drop a xs) ≡ take b xs
take-drop zero b xs h = let e : b - 0 ≡ b = omega arith in ap (λ n. take n xs) e
take-drop (suc a) b [] h = take-nothing (b - suc a) [] refl ∙ sym (take-nothing b [] refl)
take-drop (suc a) zero (x ∷ xs) h = absurd (omega arith)
take-drop (suc a) (suc b) (x ∷ xs) h = let e : suc b - suc a ≡ b - a = omega arith in ap (λ t. x ∷ t) (ap (λ n. take a xs ++ take n (drop a xs)) e ∙ take-drop a b xs (omega arith))

pub end-grown : (h : History) (e : Entry) → end (grown_by h e) ≡ end h + 1
end-grown h e = let l = length-append h.entries (e ∷ []) in omega (arith, l)

-- an entry more changes no earlier map
pub after-grown : (h : History) (e : Entry) (n : ℕ) → n ≤ end h → after (grown_by h e) n ≡ after h n
after-grown h e n below = ap (applied_all h.base) (take-front (n - h.first) h.entries (e ∷ []) (omega (arith, below)))

-- and no earlier part of the list
pub range-grown : (h : History) (e : Entry) (low high : ℕ) → h.first ≤ low → low ≤ high → high ≤ end h → range (grown_by h e) low high ≡ range h low high
range-grown h e low high from up below =
    ap (take (high - low)) (drop-front (low - h.first) h.entries (e ∷ []) (omega (arith, from, up, below)))
    ∙ take-front (high - low) (drop (low - h.first) h.entries) (e ∷ [])
    (let l = length-drop (low - h.first) h.entries in omega (arith, from, up, below, l))

-- the map after the entries of a range
pub after-range : (h : History) (low high : ℕ) → h.first ≤ low → low ≤ high → applied_all (after h low) (range h low high) ≡ after h high
after-range h low high from up =
    let e : high - low ≡ (high - h.first) - (low - h.first) = omega (arith, from, up) in
    let le : low - h.first ≤ high - h.first = omega (arith, from, up) in
    sym (applied_all-append h.base (take (low - h.first) h.entries) (range h low high))
    ∙ ap (applied_all h.base)
    (ap (λ n. take (low - h.first) h.entries ++ take n (drop (low - h.first) h.entries)) e ∙ take-drop (low - h.first) (high - h.first) h.entries le)
