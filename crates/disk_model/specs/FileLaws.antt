-- What the images of a strip in memory are. To know: images-changed, images-synced, image-picked.
use Rattle.std.specs.Prelude.{◌≡◌, ℕ, ◌+◌, ◌≤◌, List, [], ◌∷◌, ◌++◌, length, take, drop}
use Rattle.std.proofs.Common.{inl, inr, arith, refl, sym, ◌∙◌, ap, subst, append_assoc, length-take, length-append, length-drop}
use Rattle.std.proofs.lemmas.List.{take_all, take_at, drop_at, take_min}
use Rattle.disk_model.specs.Strips.{Torn, Cut}
use Rattle.disk_model.specs.Crashes.{Follows, Only}
use Rattle.disk_model.specs.FileState.{FileState, Alters, AlterAll, MayLeave, changed, file_of}
use Rattle.disk_model.specs.declared.change.Change.{Change}
use Rattle.disk_model.specs.declared.change.Change.TheVariants.{Written, CutTo}

-- nothing of a write got to the disk
pub torn_same : (at count : ℕ) (content : List ℕ) → Torn at count content content
torn_same at count content = record { before = refl; after = refl; no_shorter = omega arith; no_longer = omega arith }

-- all of it did
pub torn_held : (at : ℕ) (bytes content : List ℕ) → at ≤ length content → Torn at (length bytes) content (take at content ++ bytes ++ drop (at + length bytes) content)
torn_held at bytes content within =
    let front : length (take at content) ≡ at = omega (arith, length-take at content) in
    let rest = drop (at + length bytes) content in
    record {
      before = ap (λ (l : List ℕ). take at l) (append_assoc (take at content) bytes rest) ∙ take_at (take at content) (bytes ++ rest) at front;
      after = drop_at (take at content ++ bytes) rest (at + length bytes) (omega (arith, front, length-append (take at content) bytes));
      no_shorter = omega (arith, front, length-append (take at content) bytes, length-append (take at content ++ bytes) rest, length-drop (at + length bytes) content);
      no_longer = omega (arith, front, length-append (take at content) bytes, length-append (take at content ++ bytes) rest, length-drop (at + length bytes) content);
    }

-- torn twice in one range
pub torn-twice : (at n : ℕ) (a b c : List ℕ) → Torn at n a b → Torn at n b c → Torn at n a c
torn-twice at n a b c first second = record {
  before = second.before ∙ first.before;
  after = second.after ∙ first.after;
  no_shorter = omega (arith, first.no_shorter, second.no_shorter);
  no_longer = omega (arith, first.no_longer, second.no_longer);
}

-- nothing of a cut got to the disk
pub cut_same : (at : ℕ) (content : List ℕ) → Cut at content content
cut_same at content = record { no_shorter = omega arith; front = take_all (length content) content (omega arith) }

-- all of it did
pub cut_taken : (at : ℕ) (content : List ℕ) → Cut at content (take at content)
cut_taken at content = record {
  no_shorter = omega (arith, length-take at content);
  front = ap (λ (n : ℕ). take n content) (length-take at content) ∙ take_min at content;
}

-- a change may leave all as it was
pub alters_same : (change : Change) (bytes : List ℕ) → Alters change bytes bytes
alters_same (Written at count) bytes = torn_same at count bytes
alters_same (CutTo at) bytes = cut_same at bytes

pub alter_all-same : (changes : List Change) (bytes : List ℕ) → AlterAll changes bytes bytes
alter_all-same [] bytes = refl
alter_all-same (change ∷ changes) bytes = (bytes, alters_same change bytes, alter_all-same changes bytes)

-- one change more
alter_all-push : (changes : List Change) (change : Change) (from image : List ℕ) → AlterAll (changes ++ change ∷ []) from image → (mid : List ℕ) × AlterAll changes from mid × Alters change mid image
alter_all-push [] change from image all = (from, refl, subst (Alters change from) (sym all.2) all.1)
alter_all-push (first ∷ changes) change from image all = let last = alter_all-push changes change all.0 image all.2 in (last.0, (all.0, all.1, last.1), last.2)

pub alter_all-pushed : (changes : List Change) (change : Change) (from mid image : List ℕ) → AlterAll changes from mid → Alters change mid image → AlterAll (changes ++ change ∷ []) from image
alter_all-pushed [] change from mid image all last = (image, subst (λ (l : List ℕ). Alters change l image) all last, refl)
alter_all-pushed (first ∷ changes) change from mid image all last = (all.0, all.1, alter_all-pushed changes change all.0 mid image all.2 last)

-- after one change more each image is an image from before, altered
pub images-changed : (file : FileState) (change : Change) (bytes : List ℕ) → Alters change file.bytes bytes → Follows (Alters change) (MayLeave file) (MayLeave (record (changed change file) { bytes = bytes }))
images-changed file change bytes own image (inl is) = (file.bytes, inl refl, subst (Alters change file.bytes) (sym is) own)
images-changed file change bytes own image (inr all) = let last = alter_all-push file.changes change file.synced image all in (last.0, inr last.1, last.2)

-- nothing changed
pub images-same : (file : FileState) (change : Change) → Follows (Alters change) (MayLeave file) (MayLeave file)
images-same file change image left = (image, left, alters_same change image)

-- a synced file has its bytes as its one image
pub images-synced : (bytes : List ℕ) → Only bytes (MayLeave (file_of bytes))
images-synced bytes image (inl is) = is
images-synced bytes image (inr is) = is
