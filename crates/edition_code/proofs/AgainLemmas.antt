-- An edition that is spelled is read back. To know: `edition_again`.
use Rattle.std.proofs.Common.{◌≡◌, ℕ, suc, ◌^◌, ◌<◌, ◌≤◌, Bool, true, false, eqb, ltb, List, [], ◌∷◌, ◌++◌, length, replicate, Option, Some, None, Ok, refl, sym, ap, subst, ◌∙◌, append_assoc, arith}
use Rattle.std.specs.Int.{w8, w16, w32, w64, from_be_bytes, to_be_bytes}
use Rattle.std.specs.Ordering.{is_lt}
use Rattle.std.proofs.lemmas.Bool.{le-ltb, lt-ltb, ne_eqb}
use Rattle.std.proofs.lemmas.List.{append-nil}
use Rattle.rdb_base.specs.Bytes.{AreBytes}
use Rattle.rdb_base.specs.Order.{key_cmp}
use Rattle.rdb_base.specs.PairFields.{number_at, bytes_at, key_field_at, placed}
use Rattle.rdb_base.proofs.PairLemmas.{IsWide, wide16, wide32, wide64, number_again, bytes_again}
use Rattle.edition_code.specs.declared.run_field.RunField.{RunField}
use Rattle.edition_code.specs.declared.index_field.IndexField.{IndexField}
use Rattle.edition_code.specs.declared.format.TheConstants.{DIGEST_LEN, LOW_MAX, RUNS_MAX, PARTITIONS_MAX}
use Rattle.edition_code.specs.Values.{PartValue, EditionValue}
use Rattle.edition_code.specs.Editions.{file_field, run_field, run_fields, index_field, part_head, part_field, part_fields, edition_head, edition_bytes, lows_of, is_in, IsDrawn, run_numbers, part_numbers, greatest_base, IsEdition}
use Rattle.edition_code.specs.Reading.{file_number_at, digest_at, run_at, runs_at, are_zero, no_index_at, index_of, index_at, first_low_at, next_low_at, low_at, PartHead, part_head_at, part_at, parts_at, numbers_at, count_at, edition_fields}
use Rattle.edition_code.specs.Laws.{IsHeld, EditionReadsBack}
use Rattle.edition_code.proofs.FitLemmas.{LowFits, RunFits, RunsFit, run_of, IndexFits, PartFits, PartsFit, lows_fit, parts_fit}

back8 : (bytes : List ℕ) → length bytes ≡ 1 → AreBytes bytes → to_be_bytes w8 (from_be_bytes w8 bytes) ≡ bytes
back8 [] len fits = absurd (omega (arith, len))
back8 (b ∷ []) len fits = let small = fits 0 in ap (λ (n : ℕ). n ∷ []) (omega (arith, small))
back8 (b ∷ c ∷ bytes) len fits = absurd (omega (arith, len))

pub wide8 : IsWide w8 256
wide8 = record {
  len = λ n. refl;
  back = back8;
  again = λ n lt. omega arith;
  below = λ bytes fits. let small = fits 0 in omega (arith, small);
}

not_zero : (n : ℕ) → 1 ≤ n → eqb n 0 ≡ false
not_zero n some = ne_eqb n 0 (λ none. omega (arith, none, some))

-- two, three and four lists before another
two : (a b rest : List ℕ) → (a ++ b) ++ rest ≡ a ++ (b ++ rest)
two a b rest = append_assoc a b rest

three : (a b c rest : List ℕ) → (a ++ (b ++ c)) ++ rest ≡ a ++ (b ++ (c ++ rest))
three a b c rest = append_assoc a (b ++ c) rest ∙ ap (λ (l : List ℕ). a ++ l) (two b c rest)

pub four : (a b c d rest : List ℕ) → (a ++ (b ++ (c ++ d))) ++ rest ≡ a ++ (b ++ (c ++ (d ++ rest)))
four a b c d rest = append_assoc a (b ++ (c ++ d)) rest ∙ ap (λ (l : List ℕ). a ++ l) (three b c d rest)

-- ---- files

number_steps : (next n : ℕ) (before bytes rest : List ℕ) → number_at w64 bytes ≡ Ok (n, rest) → eqb n 0 ≡ false → ltb n next ≡ true → is_in n before ≡ false → file_number_at next before bytes ≡ Ok (n, rest)
unfolding file_number_at
number_steps next n before bytes rest e some low new = rw (e, some, low, new) refl

file_number_again : (next : ℕ) (before : List ℕ) (n : ℕ) (rest : List ℕ) → next < 2 ^ 64 → IsDrawn next n → is_in n before ≡ false → file_number_at next before (to_be_bytes w64 n ++ rest) ≡ Ok (n, rest)
file_number_again next before n rest limit drawn new =
    number_steps next n before (to_be_bytes w64 n ++ rest) rest (number_again w64 (2 ^ 64) wide64 n rest (omega (arith, limit, drawn.1))) (not_zero n drawn.0) (lt-ltb n next drawn.1) new

digest_again : (digest rest : List ℕ) → length digest ≡ DIGEST_LEN → digest_at (digest ++ rest) ≡ Ok (digest, rest)
digest_again digest rest len = ap (λ (n : ℕ). bytes_at n (digest ++ rest)) (sym len) ∙ bytes_again digest rest

run_steps : (next n len : ℕ) (before bytes one more digest rest : List ℕ) → file_number_at next before bytes ≡ Ok (n, one) → number_at w64 one ≡ Ok (len, more) → digest_at more ≡ Ok (digest, rest) → run_at next before bytes ≡ Ok (record { number = n; length = len; digest = digest }, rest)
unfolding run_at
run_steps next n len before bytes one more digest rest a b c = rw (a, b, c) refl

file_parts : (n len : ℕ) (digest rest : List ℕ) → file_field n len digest ++ rest ≡ to_be_bytes w64 n ++ (to_be_bytes w64 len ++ (digest ++ rest))
file_parts n len digest rest = three (to_be_bytes w64 n) (to_be_bytes w64 len) digest rest

run_again : (next : ℕ) (before : List ℕ) (run : RunField) (rest : List ℕ) → next < 2 ^ 64 → RunFits next before run → run_at next before (file_field run.number run.length run.digest ++ rest) ≡ Ok (run, rest)
run_again next before run rest limit fits =
    ap (run_at next before) (file_parts run.number run.length run.digest rest)
    ∙ run_steps next run.number run.length before (to_be_bytes w64 run.number ++ (to_be_bytes w64 run.length ++ (run.digest ++ rest))) (to_be_bytes w64 run.length ++ (run.digest ++ rest)) (run.digest ++ rest) run.digest rest
    (file_number_again next before run.number (to_be_bytes w64 run.length ++ (run.digest ++ rest)) limit fits.drawn fits.new)
    (number_again w64 (2 ^ 64) wide64 run.length (run.digest ++ rest) fits.held.size)
    (digest_again run.digest rest fits.held.digest)

run_field_again : (next : ℕ) (before : List ℕ) (run : RunField) (rest : List ℕ) → next < 2 ^ 64 → RunFits next before run → run_at next before (run_field run ++ rest) ≡ Ok (run, rest)
unfolding run_field
run_field_again = run_again

runs_again : (next : ℕ) (before : List ℕ) (runs : List RunField) (rest : List ℕ) → next < 2 ^ 64 → RunsFit next before runs → runs_at (length runs) next before (run_fields runs ++ rest) ≡ Ok (runs, rest)
unfolding runs_at run_fields
runs_again next before [] rest limit fits = refl
runs_again next before (run ∷ runs) rest limit fits =
    ap (runs_at (suc (length runs)) next before) (append_assoc (run_field run) (run_fields runs) rest)
    ∙ rw (run_field_again next before run (run_fields runs ++ rest) limit fits.0, runs_again next (before ++ run.number ∷ []) runs rest limit fits.1) refl

-- ---- indexes

none_steps : (runs next : ℕ) (before bytes one rest : List ℕ) → number_at w64 bytes ≡ Ok (0, one) → no_index_at one ≡ Ok rest → index_at runs next before bytes ≡ Ok (None, rest)
unfolding index_at
none_steps runs next before bytes one rest a b = rw (a, b) refl

no_index_steps : (bytes one digest rest : List ℕ) → number_at w64 bytes ≡ Ok (0, one) → digest_at one ≡ Ok (digest, rest) → are_zero digest ≡ true → no_index_at bytes ≡ Ok rest
unfolding no_index_at
no_index_steps bytes one digest rest a b c = rw (a, b, c) refl

some_steps : (runs next n : ℕ) (before bytes one rest : List ℕ) (file : RunField) → number_at w64 bytes ≡ Ok (n, one) → eqb n 0 ≡ false → eqb runs 0 ≡ false → run_at next before bytes ≡ Ok (file, rest) → index_at runs next before bytes ≡ Ok (Some (index_of file), rest)
unfolding index_at
some_steps runs next n before bytes one rest file a b c d = rw (a, b, c, d) refl

no_index_again : (rest : List ℕ) → no_index_at (to_be_bytes w64 0 ++ (replicate 32 0 ++ rest)) ≡ Ok rest
no_index_again rest = no_index_steps (to_be_bytes w64 0 ++ (replicate 32 0 ++ rest)) (replicate 32 0 ++ rest) (replicate 32 0) rest (number_again w64 (2 ^ 64) wide64 0 (replicate 32 0 ++ rest) (omega arith)) (digest_again (replicate 32 0) rest refl) refl

index_again : (runs next : ℕ) (before : List ℕ) (index : Option IndexField) (rest : List ℕ) → next < 2 ^ 64 → IndexFits runs next before index → index_at runs next before (index_field index ++ rest) ≡ Ok (index, rest)
unfolding index_field
index_again runs next before None rest limit fits =
    none_steps runs next before (to_be_bytes w64 0 ++ (to_be_bytes w64 0 ++ (replicate 32 0 ++ rest))) (to_be_bytes w64 0 ++ (replicate 32 0 ++ rest)) rest (number_again w64 (2 ^ 64) wide64 0 (to_be_bytes w64 0 ++ (replicate 32 0 ++ rest)) (omega arith)) (no_index_again rest)
index_again runs next before (Some index) rest limit fits =
    some_steps runs next index.number before (file_field index.number index.length index.digest ++ rest) (to_be_bytes w64 index.length ++ (index.digest ++ rest)) rest (run_of index)
    (ap (number_at w64) (file_parts index.number index.length index.digest rest) ∙ number_again w64 (2 ^ 64) wide64 index.number (to_be_bytes w64 index.length ++ (index.digest ++ rest)) (omega (arith, limit, fits.1.drawn.1)))
    (not_zero index.number fits.1.drawn.0) (not_zero runs fits.0) (run_again next before (run_of index) rest limit fits.1)

-- ---- partitions

first_steps : (bytes rest : List ℕ) → number_at w16 bytes ≡ Ok (0, rest) → first_low_at bytes ≡ Ok ([], rest)
unfolding first_low_at
first_steps bytes rest e = rw e refl

key_steps : (most n : ℕ) (bytes one key rest : List ℕ) → number_at w16 bytes ≡ Ok (n, one) → eqb n 0 ≡ false → ltb most n ≡ false → bytes_at n one ≡ Ok (key, rest) → key_field_at most bytes ≡ Ok (key, rest)
unfolding key_field_at
key_steps most n bytes one key rest a b c d = rw (a, b, c, d) refl

next_steps : (last bytes low rest : List ℕ) → key_field_at LOW_MAX bytes ≡ Ok (low, rest) → is_lt (key_cmp last low) ≡ true → next_low_at last bytes ≡ Ok (low, rest)
unfolding next_low_at
next_steps last bytes low rest a b = rw (a, b) refl

low_again : (is_first : Bool) (last low rest : List ℕ) → LowFits is_first last low → low_at is_first last (to_be_bytes w16 (length low) ++ (low ++ rest)) ≡ Ok (low, rest)
low_again true last low rest fits =
    subst (λ (l : List ℕ). first_low_at (to_be_bytes w16 (length l) ++ (l ++ rest)) ≡ Ok (l, rest)) (sym fits) (first_steps (to_be_bytes w16 0 ++ rest) rest (number_again w16 (2 ^ 16) wide16 0 rest (omega arith)))
low_again false last low rest fits =
    next_steps last (to_be_bytes w16 (length low) ++ (low ++ rest)) low rest
    (key_steps LOW_MAX (length low) (to_be_bytes w16 (length low) ++ (low ++ rest)) (low ++ rest) low rest (number_again w16 (2 ^ 16) wide16 (length low) (low ++ rest) (omega (arith, fits.0.1))) (not_zero (length low) fits.0.0) (le-ltb LOW_MAX (length low) fits.0.1) (bytes_again low rest))
    (ap is_lt fits.1)

head_steps : (is_first : Bool) (last bytes low one more rest : List ℕ) (base runs : ℕ) → low_at is_first last bytes ≡ Ok (low, one) → number_at w64 one ≡ Ok (base, more) → number_at w8 more ≡ Ok (runs, rest) → ltb RUNS_MAX runs ≡ false → part_head_at is_first last bytes ≡ Ok (record { low = low; base = base; runs = runs }, rest)
unfolding part_head_at
head_steps is_first last bytes low one more rest base runs a b c d = rw (a, b, c, d) refl

part_head_again : (is_first : Bool) (last low : List ℕ) (base runs : ℕ) (rest : List ℕ) → LowFits is_first last low → base < 2 ^ 64 → runs ≤ RUNS_MAX → part_head_at is_first last (part_head low base runs ++ rest) ≡ Ok (record { low = low; base = base; runs = runs }, rest)
unfolding part_head
part_head_again is_first last low base runs rest fits limit few =
    ap (part_head_at is_first last) (four (to_be_bytes w16 (length low)) low (to_be_bytes w64 base) (to_be_bytes w8 runs) rest)
    ∙ head_steps is_first last (to_be_bytes w16 (length low) ++ (low ++ (to_be_bytes w64 base ++ (to_be_bytes w8 runs ++ rest)))) low (to_be_bytes w64 base ++ (to_be_bytes w8 runs ++ rest)) (to_be_bytes w8 runs ++ rest) rest base runs
    (low_again is_first last low (to_be_bytes w64 base ++ (to_be_bytes w8 runs ++ rest)) fits)
    (number_again w64 (2 ^ 64) wide64 base (to_be_bytes w8 runs ++ rest) limit)
    (number_again w8 256 wide8 runs rest (omega (arith, few)))
    (le-ltb RUNS_MAX runs few)

part_steps : (next : ℕ) (is_first : Bool) (last before bytes one more rest : List ℕ) (head : PartHead) (runs : List RunField) (index : Option IndexField) → part_head_at is_first last bytes ≡ Ok (head, one) → runs_at head.runs next before one ≡ Ok (runs, more)
    → index_at head.runs next (before ++ run_numbers runs) more ≡ Ok (index, rest) → part_at next is_first last before bytes ≡ Ok (record { low = head.low; base = head.base; runs = runs; index = index }, rest)
unfolding part_at
part_steps next is_first last before bytes one more rest head runs index a b c = rw (a, b, c) refl

part_again : (next : ℕ) (is_first : Bool) (last before : List ℕ) (part : PartValue) (rest : List ℕ) → next < 2 ^ 64 → PartFits next is_first last before part → part_at next is_first last before (part_field part ++ rest) ≡ Ok (part, rest)
unfolding part_field
part_again next is_first last before part rest limit fits =
    ap (part_at next is_first last before) (three (part_head part.low part.base (length part.runs)) (run_fields part.runs) (index_field part.index) rest)
    ∙ part_steps next is_first last before (part_head part.low part.base (length part.runs) ++ (run_fields part.runs ++ (index_field part.index ++ rest))) (run_fields part.runs ++ (index_field part.index ++ rest)) (index_field part.index ++ rest) rest
    (record { low = part.low; base = part.base; runs = length part.runs }) part.runs part.index
    (part_head_again is_first last part.low part.base (length part.runs) (run_fields part.runs ++ (index_field part.index ++ rest)) fits.low fits.base fits.few)
    (runs_again next before part.runs (index_field part.index ++ rest) limit fits.runs)
    (index_again (length part.runs) next (before ++ run_numbers part.runs) part.index rest limit fits.index)

parts_again : (next : ℕ) (is_first : Bool) (last before : List ℕ) (parts : List PartValue) (rest : List ℕ) → next < 2 ^ 64 → PartsFit next is_first last before parts → parts_at (length parts) next is_first last before (part_fields parts ++ rest) ≡ Ok (parts, rest)
unfolding parts_at part_fields
parts_again next is_first last before [] rest limit fits = refl
parts_again next is_first last before (part ∷ parts) rest limit fits =
    ap (parts_at (suc (length parts)) next is_first last before) (append_assoc (part_field part) (part_fields parts) rest)
    ∙ rw (part_again next is_first last before part (part_fields parts ++ rest) limit fits.0, parts_again next false part.low (before ++ part_numbers part) parts rest limit fits.1) refl

-- ---- the whole

numbers_steps : (bytes one rest : List ℕ) (number next : ℕ) → number_at w64 bytes ≡ Ok (number, one) → number_at w64 one ≡ Ok (next, rest) → eqb number 0 ≡ false → ltb number next ≡ true → numbers_at bytes ≡ Ok ((number, next), rest)
unfolding numbers_at
numbers_steps bytes one rest number next a b c d = rw (a, c, b, d) refl

count_steps : (bytes rest : List ℕ) (count : ℕ) → number_at w32 bytes ≡ Ok (count, rest) → eqb count 0 ≡ false → ltb PARTITIONS_MAX count ≡ false → count_at bytes ≡ Ok (count, rest)
unfolding count_at
count_steps bytes rest count a b c = rw (a, b, c) refl

edition_steps : (bytes one two three rest : List ℕ) (number next first count : ℕ) (parts : List PartValue) → numbers_at bytes ≡ Ok ((number, next), one) → number_at w64 one ≡ Ok (first, two) → count_at two ≡ Ok (count, three) → parts_at count next true [] [] three ≡ Ok (parts, rest)
    → length rest ≡ 0 → ltb (greatest_base parts) first ≡ false → edition_fields bytes ≡ Ok (record { number = number; next = next; first = first; partitions = parts })
unfolding edition_fields
edition_steps bytes one two three rest number next first count parts a b c d e f = rw (a, b, c, d, e, f) refl

edition_parts : (edition : EditionValue) → edition_bytes edition ≡ to_be_bytes w64 edition.number ++ (to_be_bytes w64 edition.next ++ (to_be_bytes w64 edition.first ++ (to_be_bytes w32 (length edition.partitions) ++ part_fields edition.partitions)))
unfolding edition_bytes edition_head
edition_parts edition = four (to_be_bytes w64 edition.number) (to_be_bytes w64 edition.next) (to_be_bytes w64 edition.first) (to_be_bytes w32 (length edition.partitions)) (part_fields edition.partitions)

pub edition_rules : (edition : EditionValue) → IsHeld edition → IsEdition edition → PartsFit edition.next true [] [] edition.partitions
edition_rules edition held fits = parts_fit edition.next true [] [] edition.partitions (record {
  lows = lows_fit (lows_of edition.partitions) fits.first_low fits.low_lengths fits.lows_rise;
  few = fits.runs_few;
  drawn = fits.files_drawn;
  new = fits.files_differ;
  indexed = fits.index_of_runs;
  held = held.partitions;
})

edition_fields_again : (edition : EditionValue) → IsHeld edition → IsEdition edition → edition_fields (edition_bytes edition) ≡ Ok edition
edition_fields_again edition held fits =
    let parts = part_fields edition.partitions in
    let count = to_be_bytes w32 (length edition.partitions) ++ parts in
    let first = to_be_bytes w64 edition.first ++ count in
    let next = to_be_bytes w64 edition.next ++ first in
    let number = to_be_bytes w64 edition.number ++ next in
    let many : length edition.partitions < 2 ^ 32 = omega (arith, fits.partitions_few) in
    ap edition_fields (edition_parts edition)
    ∙ edition_steps number first count parts [] edition.number edition.next edition.first (length edition.partitions) edition.partitions
    (numbers_steps number next first edition.number edition.next (number_again w64 (2 ^ 64) wide64 edition.number next (omega (arith, fits.number_drawn, held.next))) (number_again w64 (2 ^ 64) wide64 edition.next first held.next) (not_zero edition.number fits.number_some) (lt-ltb edition.number edition.next fits.number_drawn))
    (number_again w64 (2 ^ 64) wide64 edition.first count held.first)
    (count_steps count parts (length edition.partitions) (number_again w32 (2 ^ 32) wide32 (length edition.partitions) parts many) (not_zero (length edition.partitions) fits.partitions_some) (le-ltb PARTITIONS_MAX (length edition.partitions) fits.partitions_few))
    (ap (parts_at (length edition.partitions) edition.next true [] []) (sym (append-nil parts)) ∙ parts_again edition.next true [] [] edition.partitions [] held.next (edition_rules edition held fits))
    refl (le-ltb (greatest_base edition.partitions) edition.first fits.first_covered)

pub edition_again : EditionReadsBack
edition_again edition held fits = ap (placed (edition_bytes edition)) (edition_fields_again edition held fits)
