-- What decoding answers beside the edition. To know: `decoded-spelled`, `decoded-none`.
use Rattle.std.proofs.Common.{◌≡◌, ℕ, List, Result, Ok, Err, ap, subst, ◌∙◌}
use Rattle.rdb_base.specs.Bytes.{AreBytes}
use Rattle.edition_code.specs.Values.{EditionValue}
use Rattle.edition_code.specs.Reading.{edition_of}
use Rattle.edition_code.specs.Answers.{FailsField, IsSpelling, HasNoEdition}
use Rattle.edition_code.specs.declared.field_error.FieldError.{FieldError}
use Rattle.edition_code.specs.declared.field_error.FieldError.TheVariants as fields
use Rattle.edition_code.proofs.AgainLemmas.{edition_again}
use Rattle.edition_code.proofs.TakenLemmas.{edition_taken}

pub decoded-spelled : (bytes : List ℕ) (edition : EditionValue) → AreBytes bytes → edition_of bytes ≡ Ok edition → IsSpelling edition bytes
decoded-spelled bytes edition fits e =
    let taken = edition_taken bytes edition fits e in
    (taken.1, taken.2)

not_both : (r : Result EditionValue ℕ) (edition : EditionValue) (at : ℕ) → r ≡ Err at → r ≡ Ok edition → ⊥
not_both r edition at e f = cc

pub decoded-none : (bytes : List ℕ) (at : ℕ) → edition_of bytes ≡ Err at → HasNoEdition bytes
decoded-none bytes at e edition held spelled = not_both (edition_of bytes) edition at e (ap edition_of spelled.1 ∙ edition_again edition held spelled.0)

-- a field that is wrong, with so many bytes left
pub fails_left : (error : FieldError) (left : ℕ) (r : Result EditionValue ℕ) → error ≡ fields.Bad left → FailsField error r → r ≡ Err left
fails_left error left r e fails = subst (λ (x : FieldError). FailsField x r) e fails
