-- The words that the program takes, and those that the system gives it.
use Rattle.std.specs.Prelude.{◌≡◌, ◌≢◌, ℕ, List, [], ◌∷◌, drop, map, codes, String, string_bytes}
use Rattle.std.specs.declared.alloc.Global.{Global}

-- a word for a place: it is not empty, and does not begin with `-`
abbrev pub IsPlace : List ℕ → Type 0
IsPlace [] = ⊥
IsPlace (byte ∷ bytes) = byte ≢ 45

-- `script PLACE`
pub record IsScript (words : List (List ℕ)) : Type 0 where
  pub place : List ℕ
  pub are : words ≡ codes "script" ∷ (place ∷ [])
  pub is_place : IsPlace place

-- the words after the program's name, which is the first of the arguments
abbrev pub words_after_name : List (String Global) → List (List ℕ)
words_after_name arguments = map string_bytes (drop 1 arguments)
