-- From what a reader finds to what opening answers.
use Rattle.std.proofs.Common.{◌≡◌, ℕ, ◌/◌, List, length, sym, subst, ◌∙◌}
use Rattle.std.specs.Prelude.{Option, Some, None, IfSome}
use Rattle.rdb_base.specs.Bytes.{AreBytes}
use Rattle.rdb_base.specs.Runs.{sizes}
use Rattle.block_code.specs.declared.format.TheConstants.{FIRST_LIMITS}
use Rattle.block_code.proofs.CheckLemmas.{first_held}
use Rattle.table_file.specs.declared.format.TheConstants.{UNIT_AND_COUNT}
use Rattle.table_file.specs.Answers.{IsSomeTable, IsNoTable}
use Rattle.table_file.specs.Held.{pairs_held, places_of, ArePlaces, IsHeld}
use Rattle.table_file.specs.Tables.{IsTable}
use Rattle.table_file.specs.TableReading.{first_wrong}
use Rattle.table_file.proofs.HeldLemmas.{table_held}
use Rattle.table_file.proofs.TakenLemmas.{none_wrong, some_table}

-- bytes with no wrong place are a table
pub answer-table : (bytes : List ℕ) (answer : Option ℕ) → AreBytes bytes → answer ≡ first_wrong FIRST_LIMITS bytes → answer ≡ None → IsSomeTable bytes
answer-table bytes answer fits e none = some_table FIRST_LIMITS bytes fits (sym e ∙ none)

-- those with one are none
pub answer-none : (bytes : List ℕ) (answer : Option ℕ) → answer ≡ first_wrong FIRST_LIMITS bytes → IfSome answer (λ place. IsNoTable bytes)
answer-none bytes None e = tt
answer-none bytes (Some place) e = λ run is. no (e ∙ none_wrong FIRST_LIMITS run bytes first_held is)
  where
    no : Some place ≡ None → ⊥
    no h = absurd cc

-- places that were read of a table are the places of its pairs
pub are_places : (bytes starts : List ℕ) (units : ℕ) → IsSomeTable bytes → units ≡ length bytes / UNIT_AND_COUNT → starts ≡ places_of units bytes → ArePlaces bytes starts
are_places bytes starts units is e f = subst (ArePlaces bytes) (sym f) (table_held bytes units is e).1

-- what is kept of a table stands for its run
pub is_held : (bytes starts : List ℕ) (units size : ℕ) → IsSomeTable bytes → units ≡ length bytes / UNIT_AND_COUNT → starts ≡ places_of units bytes → size ≡ sizes (pairs_held bytes starts) → IsHeld bytes starts size
is_held bytes starts units size is e f g = record {
  table = subst (λ (l : List ℕ). IsTable FIRST_LIMITS (pairs_held bytes l) bytes) (sym f) (table_held bytes units is e).0;
  places = are_places bytes starts units is e f;
  summed = g;
}
