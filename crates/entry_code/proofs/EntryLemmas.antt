-- Entries are read one after the other, and what is spelled is read back.
use Rattle.std.proofs.Common.{◌≡◌, ℕ, zero, suc, ◌+◌, ◌^◌, ◌<◌, ◌≤◌, true, false, eqb, ltb, List, [], ◌∷◌, ◌++◌, length, Result, Ok, Err, IsOk, refl, sym, ap, subst, ◌∙◌, append_assoc, arith}
use Rattle.std.specs.Int.{w8, w32, w64, from_be_bytes, to_be_bytes}
use Rattle.std.proofs.lemmas.Bool.{le-ltb}
use Rattle.std.proofs.lemmas.Bool.Decides.{nat_tests}
use Rattle.std.proofs.lemmas.List.{append-nil}
use Rattle.rdb_base.specs.declared.limits.TheConstants.{KEY_MAX, VALUE_MAX}
use Rattle.rdb_base.specs.declared.entry.Entry.{Entry}
use Rattle.rdb_base.specs.PairFields.{◌>>=◌, number_at, pair_field, placed}
use Rattle.rdb_base.proofs.PairLemmas.{number_again, wide32, wide64, pair_again}
use Rattle.entry_code.specs.declared.field_error.FieldError.{FieldError}
use Rattle.entry_code.specs.declared.field_error.FieldError.TheVariants as fields
use Rattle.entry_code.specs.Answers.{FailsField, IfFieldMemory}
use Rattle.entry_code.specs.Laws.{IsEntryWithin, AreEntriesWithin, HeaderReadsBack, EntriesReadBack}
use Rattle.entry_code.specs.Payloads.{header_payload, entry_numbers, entry_field, entry_fields, entries_payload, kind_at, header_fields, entry_at, entries_at, entries_fields}

-- what is read after entries that were read before
abbrev pub after : List Entry → Result (List Entry × List ℕ) ℕ → Result (List Entry × List ℕ) ℕ
after done (Ok more) = Ok (done ++ more.0, more.1)
after done (Err left) = Err left

pub after-none : (read : Result (List Entry × List ℕ) ℕ) → after [] read ≡ read
after-none (Ok more) = refl
after-none (Err left) = refl

again : (done : List Entry) (entry : Entry) (read : Result (List Entry × List ℕ) ℕ) → after done (read >>= λ more. Ok (entry ∷ more.0, more.1)) ≡ after (done ++ entry ∷ []) read
again done entry (Ok more) = ap (λ (l : List Entry). Ok (l, more.1)) (sym (append_assoc done (entry ∷ []) more.0))
again done entry (Err left) = refl

pub after-next : (done : List Entry) (n : ℕ) (bytes : List ℕ) (entry : Entry) (rest : List ℕ) → entry_at bytes ≡ Ok (entry, rest) → after done (entries_at (suc n) bytes) ≡ after (done ++ entry ∷ []) (entries_at n rest)
unfolding entries_at
after-next done n bytes entry rest e = rw e (again done entry (entries_at n rest))

pub after-stop : (done : List Entry) (n : ℕ) (bytes : List ℕ) (left : ℕ) → entry_at bytes ≡ Err left → after done (entries_at (suc n) bytes) ≡ Err left
unfolding entries_at
after-stop done n bytes left e = rw e refl

pub after-end : (done : List Entry) (bytes : List ℕ) → after done (entries_at 0 bytes) ≡ Ok (done, bytes)
unfolding entries_at
after-end done bytes = ap (λ (l : List Entry). Ok (l, bytes)) (append-nil done)

pub fails-after : (error : FieldError) (done : List Entry) (n : ℕ) (bytes : List ℕ) (whole : Result (List Entry × List ℕ) ℕ) → FailsField error (entry_at bytes) → whole ≡ after done (entries_at (suc n) bytes) → FailsField error whole
fails-after (fields.Bad left) done n bytes whole fails e = e ∙ after-stop done n bytes left fails
fails-after fields.Memory done n bytes whole fails e = tt

-- the first entry is whole where the entry that is read after others is, since these were read
pub first_read : (place : ℕ) (rest bytes : List ℕ) → (place ≡ 0 → rest ≡ bytes) → (0 < place → IsOk (entry_at bytes)) → IsOk (entry_at rest) → IsOk (entry_at bytes)
first_read zero rest bytes begins first whole = subst (λ (l : List ℕ). IsOk (entry_at l)) (begins refl) whole
first_read (suc n) rest bytes begins first whole = first (omega arith)

pub memory-so : (error : FieldError) (P Q : Type 0) → (P → Q) → IfFieldMemory error P → IfFieldMemory error Q
memory-so (fields.Bad left) P Q so holds = tt
memory-so fields.Memory P Q so holds = so holds

-- ---- what is spelled is read back

entry_again : (entry : Entry) (rest : List ℕ) → IsEntryWithin entry → entry_at (entry_field entry ++ rest) ≡ Ok (entry, rest)
unfolding entry_at entry_field
entry_again entry rest fits =
    let parts : (entry_numbers entry.caller entry.ordinal ++ pair_field entry.key entry.change) ++ rest ≡ to_be_bytes w32 entry.caller ++ (to_be_bytes w64 entry.ordinal ++ (pair_field entry.key entry.change ++ rest)) =
    append_assoc (entry_numbers entry.caller entry.ordinal) (pair_field entry.key entry.change) rest ∙ append_assoc (to_be_bytes w32 entry.caller) (to_be_bytes w64 entry.ordinal) (pair_field entry.key entry.change ++ rest) in
    ap entry_at parts
    ∙ rw (
      number_again w32 (2 ^ 32) wide32 entry.caller (to_be_bytes w64 entry.ordinal ++ (pair_field entry.key entry.change ++ rest)) fits.caller,
      number_again w64 (2 ^ 64) wide64 entry.ordinal (pair_field entry.key entry.change ++ rest) fits.ordinal,
      pair_again KEY_MAX VALUE_MAX entry.key entry.change rest (omega arith) (omega arith) (fits.key.0, fits.key.1, fits.change),
    ) refl

entries_again : (entries : List Entry) (rest : List ℕ) → AreEntriesWithin entries → entries_at (length entries) (entry_fields entries ++ rest) ≡ Ok (entries, rest)
unfolding entries_at entry_fields
entries_again [] rest fits = refl
entries_again (entry ∷ entries) rest fits =
    ap (entries_at (suc (length entries))) (append_assoc (entry_field entry) (entry_fields entries) rest)
    ∙ rw (entry_again entry (entry_fields entries ++ rest) fits.0, entries_again entries rest fits.1) refl

kind_again : (kind : ℕ) (rest : List ℕ) → kind < 256 → kind_at kind (kind ∷ rest) ≡ Ok rest
kind_again kind rest small =
    let is : from_be_bytes w8 (kind ∷ []) ≡ kind = omega arith in
    let same : eqb (from_be_bytes w8 (kind ∷ [])) kind ≡ true = grind (arith, nat_tests) in
    rw (le-ltb (length (kind ∷ rest)) 1 (omega arith)) (rw same refl)

header_steps : (bytes rest one two : List ℕ) (segment first : ℕ) → kind_at 0 bytes ≡ Ok rest → number_at w64 rest ≡ Ok (segment, one) → number_at w64 one ≡ Ok (first, two) → length two ≡ 0 → segment ≤ first → first ≤ 2 ^ 62 → header_fields bytes ≡ Ok (record { segment = segment; first = first })
unfolding header_fields
header_steps bytes rest one two segment first k s f none le most =
    let low : ltb first segment ≡ false = le-ltb _ _ le in
    let high : ltb (2 ^ 62) first ≡ false = le-ltb _ _ most in
    rw (k, s, f, low, high, none) refl

pub header_again : HeaderReadsBack
header_again segment first le most =
    let s = number_again w64 (2 ^ 64) wide64 segment (to_be_bytes w64 first) (omega arith) in
    let f = number_again w64 (2 ^ 64) wide64 first [] (omega arith) in
    ap (placed (header_payload segment first)) (header_steps (header_payload segment first) (to_be_bytes w64 segment ++ to_be_bytes w64 first) (to_be_bytes w64 first) [] segment first (kind_again 0 (to_be_bytes w64 segment ++ to_be_bytes w64 first) (omega arith)) s f refl le most)

entries_steps : (bytes rest one two three : List ℕ) (first count : ℕ) (entries : List Entry) → kind_at 1 bytes ≡ Ok rest → number_at w64 rest ≡ Ok (first, one) → number_at w32 one ≡ Ok (count, two) → entries_at count two ≡ Ok (entries, three) → length three ≡ 0 → 1 ≤ count → first + count ≤ 2 ^ 62 → entries_fields bytes ≡ Ok (record { first = first; entries = entries })
unfolding entries_fields
entries_steps bytes rest one two three first count entries k f n e none some most =
    let low : eqb count 0 ≡ false = grind (arith, nat_tests) in
    let high : ltb (2 ^ 62) (first + count) ≡ false = le-ltb _ _ most in
    rw (k, f, n, low, high, e, none) refl

pub entries_back : EntriesReadBack
entries_back first entries fits some few most =
    let f = number_again w64 (2 ^ 64) wide64 first (to_be_bytes w32 (length entries) ++ entry_fields entries) (omega arith) in
    let n = number_again w32 (2 ^ 32) wide32 (length entries) (entry_fields entries) few in
    let e : entries_at (length entries) (entry_fields entries) ≡ Ok (entries, []) = ap (entries_at (length entries)) (sym (append-nil (entry_fields entries))) ∙ entries_again entries [] fits in
    ap (placed (entries_payload first entries)) (entries_steps (entries_payload first entries) (to_be_bytes w64 first ++ (to_be_bytes w32 (length entries) ++ entry_fields entries)) (to_be_bytes w32 (length entries) ++ entry_fields entries) (entry_fields entries) [] first (length entries) entries (kind_again 1 (to_be_bytes w64 first ++ (to_be_bytes w32 (length entries) ++ entry_fields entries)) (omega arith)) f n e refl some most)
