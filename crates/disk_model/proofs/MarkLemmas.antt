-- Bytes of which some were marked. To know: marks-range, image-picked.
use Rattle.std.proofs.Common.{◌≡◌, inl, inr, ℕ, zero, suc, ◌+◌, ◌%◌, ◌≤◌, min, List, [], ◌∷◌, ◌++◌, length, take, drop, replicate, refl, sym, ap, subst, ◌∙◌, arith, length-append, ◌⊎◌}
use Rattle.std.proofs.lemmas.Bool.{cases_lt}
use Rattle.std.proofs.lemmas.List.{drop_all, length-drop, drop-drop}
use Rattle.disk_model.specs.Strips.{Torn}
use Rattle.disk_model.specs.FileState.{FileState, Alters, AlterAll, MayLeave, marked_in, marked, left_by, crash_image}
use Rattle.disk_model.specs.FileLaws.{torn-twice, alter_all-same}
use Rattle.disk_model.specs.declared.change.Change.{Change}
use Rattle.disk_model.specs.declared.change.Change.TheVariants.{Written, CutTo}
use Rattle.disk_model.specs.declared.limits.TheConstants.{ERASED_BYTE, STRAY_BYTE}

cases_le : (a b : ℕ) → (a ≤ b) ⊎ (b ≤ a)
cases_le a b = elim (cases_lt b a) [ inl past ↦ inr (omega (arith, past)) | inr within ↦ inl within ]

module _ (byte : ℕ) where
  pub length-marked_in : (bytes : List ℕ) (at count : ℕ) → length (marked_in byte bytes at count) ≡ length bytes
  unfolding marked_in
  length-marked_in [] at count = refl
  length-marked_in (b ∷ bytes) zero zero = refl
  length-marked_in (b ∷ bytes) zero (suc count) = ap suc (length-marked_in bytes zero count)
  length-marked_in (b ∷ bytes) (suc at) count = ap suc (length-marked_in bytes at count)

  take-marked_in : (n : ℕ) (bytes : List ℕ) (at count : ℕ) → take n (marked_in byte bytes at count) ≡ marked_in byte (take n bytes) at count
  unfolding marked_in
  take-marked_in zero bytes at count = refl
  take-marked_in (suc n) [] at count = refl
  take-marked_in (suc n) (b ∷ bytes) zero zero = refl
  take-marked_in (suc n) (b ∷ bytes) zero (suc count) = ap (λ (l : List ℕ). byte ∷ l) (take-marked_in n bytes zero count)
  take-marked_in (suc n) (b ∷ bytes) (suc at) count = ap (λ (l : List ℕ). b ∷ l) (take-marked_in n bytes at count)

  -- where nothing is left of the bytes, nothing is left of the marked ones
  none-left : (n : ℕ) (bytes : List ℕ) (at count : ℕ) → drop n bytes ≡ [] → drop n (marked_in byte bytes at count) ≡ []
  none-left n bytes at count none = drop_all n (marked_in byte bytes at count) (omega (arith, ap length none, length-drop n bytes, length-marked_in bytes at count))

  -- what is left of the marked bytes follows from what is left of the bytes
  drop-marked_in : (n : ℕ) (old new : List ℕ) (at count : ℕ) → drop n new ≡ drop n old → drop n (marked_in byte new at count) ≡ drop n (marked_in byte old at count)
  unfolding marked_in
  drop-marked_in zero old new at count same = ap (λ (l : List ℕ). marked_in byte l at count) same
  drop-marked_in (suc n) [] new at count same = none-left (suc n) new at count same
  drop-marked_in (suc n) (a ∷ old) [] at count same = sym (none-left (suc n) (a ∷ old) at count (sym same))
  drop-marked_in (suc n) (a ∷ old) (b ∷ new) zero zero same = same
  drop-marked_in (suc n) (a ∷ old) (b ∷ new) zero (suc count) same = drop-marked_in n old new zero count same
  drop-marked_in (suc n) (a ∷ old) (b ∷ new) (suc at) count same = drop-marked_in n old new at count same

  -- the same marks on both sides of a change
  alters-marked : (change : Change) (old new : List ℕ) (at count : ℕ) → Alters change old new → Alters change (marked_in byte old at count) (marked_in byte new at count)
  alters-marked (Written from n) old new at count torn = record {
    before = take-marked_in from new at count ∙ ap (λ (l : List ℕ). marked_in byte l at count) torn.before ∙ sym (take-marked_in from old at count);
    after = drop-marked_in (from + n) old new at count torn.after;
    no_shorter = omega (arith, torn.no_shorter, length-marked_in old at count, length-marked_in new at count);
    no_longer = omega (arith, torn.no_longer, length-marked_in old at count, length-marked_in new at count);
  }
  alters-marked (CutTo n) old new at count cut = record {
    no_shorter = omega (arith, cut.no_shorter, length-marked_in old at count, length-marked_in new at count);
    front = ap (λ (k : ℕ). take k (marked_in byte old at count)) (length-marked_in new at count) ∙ take-marked_in (length new) old at count ∙ ap (λ (l : List ℕ). marked_in byte l at count) cut.front;
  }

  alter_all-marked : (changes : List Change) (old new : List ℕ) (at count : ℕ) → AlterAll changes old new → AlterAll changes (marked_in byte old at count) (marked_in byte new at count)
  alter_all-marked [] old new at count same = ap (λ (l : List ℕ). marked_in byte l at count) same
  alter_all-marked (change ∷ changes) old new at count all = (marked_in byte all.0 at count, alters-marked change old all.0 at count all.1, alter_all-marked changes all.0 new at count all.2)

  front-marked : (bytes : List ℕ) (at count : ℕ) → take at (marked_in byte bytes at count) ≡ take at bytes
  unfolding marked_in
  front-marked [] at count = refl
  front-marked (b ∷ bytes) zero count = refl
  front-marked (b ∷ bytes) (suc at) count = ap (λ (l : List ℕ). b ∷ l) (front-marked bytes at count)

  rest-marked : (bytes : List ℕ) (at count : ℕ) → drop count (drop at (marked_in byte bytes at count)) ≡ drop count (drop at bytes)
  unfolding marked_in
  rest-marked [] at count = refl
  rest-marked (b ∷ bytes) zero zero = refl
  rest-marked (b ∷ bytes) zero (suc count) = rest-marked bytes zero count
  rest-marked (b ∷ bytes) (suc at) count = rest-marked bytes at count

  back-marked : (bytes : List ℕ) (at count : ℕ) → drop (at + count) (marked_in byte bytes at count) ≡ drop (at + count) bytes
  back-marked bytes at count = sym (drop-drop count at (marked_in byte bytes at count)) ∙ rest-marked bytes at count ∙ drop-drop count at bytes

  -- marks are what a write may leave in its range
  torn_marked : (bytes : List ℕ) (at count : ℕ) → Torn at count bytes (marked_in byte bytes at count)
  torn_marked bytes at count = record {
    before = front-marked bytes at count;
    after = back-marked bytes at count;
    no_shorter = omega (arith, length-marked_in bytes at count);
    no_longer = omega (arith, length-marked_in bytes at count);
  }

  -- an image of which each byte is marked that was to be written is an image
  image-marked : (changes : List Change) (from image : List ℕ) → AlterAll changes from image → AlterAll changes from (marked byte changes image)
  image-marked [] from image all = all
  image-marked (Written at count ∷ changes) from image all = (
    marked_in byte all.0 at count,
    torn-twice at count from all.0 (marked_in byte all.0 at count) all.1 (torn_marked all.0 at count),
    image-marked changes (marked_in byte all.0 at count) (marked_in byte image at count) (alter_all-marked changes all.0 image at count all.2),
  )
  image-marked (CutTo at ∷ changes) from image all = (all.0, all.1, image-marked changes all.0 image all.2)

  -- marks on what stands between two parts
  pub marked_in-between : (front mid back : List ℕ) → marked_in byte (front ++ (mid ++ back)) (length front) (length mid) ≡ front ++ (replicate (length mid) byte ++ back)
  unfolding marked_in
  marked_in-between [] [] [] = refl
  marked_in-between [] [] (b ∷ back) = refl
  marked_in-between [] (b ∷ mid) back = ap (λ (l : List ℕ). byte ∷ l) (marked_in-between [] mid back)
  marked_in-between (b ∷ front) mid back = ap (λ (l : List ℕ). b ∷ l) (marked_in-between front mid back)

  -- ranges that both go to the end mark the same
  pub marked_in-end : (bytes : List ℕ) (at n m : ℕ) → length bytes ≤ at + n → length bytes ≤ at + m → marked_in byte bytes at n ≡ marked_in byte bytes at m
  unfolding marked_in
  marked_in-end [] at n m first second = refl
  marked_in-end (b ∷ bytes) zero zero m first second = absurd (omega (arith, first))
  marked_in-end (b ∷ bytes) zero (suc n) zero first second = absurd (omega (arith, second))
  marked_in-end (b ∷ bytes) zero (suc n) (suc m) first second = ap (λ (l : List ℕ). byte ∷ l) (marked_in-end bytes zero n m (omega (arith, first)) (omega (arith, second)))
  marked_in-end (b ∷ bytes) (suc at) n m first second = ap (λ (l : List ℕ). b ∷ l) (marked_in-end bytes at n m (omega (arith, first)) (omega (arith, second)))

  -- a range past the end marks nothing
  pub marked_in-past : (bytes : List ℕ) (at count : ℕ) → length bytes ≤ at → marked_in byte bytes at count ≡ bytes
  unfolding marked_in
  marked_in-past [] at count past = refl
  marked_in-past (b ∷ bytes) zero count past = absurd (omega (arith, past))
  marked_in-past (b ∷ bytes) (suc at) count past = ap (λ (l : List ℕ). b ∷ l) (marked_in-past bytes at count (omega (arith, past)))

  -- a range that is cut out of the bytes, as far as there are any
  pub marks-range : (bytes front rest range back new : List ℕ) (at count : ℕ) → bytes ≡ front ++ rest → length front ≡ min at (length bytes) → rest ≡ range ++ back → length range ≡ min count (length rest)
      → new ≡ replicate (length range) byte → front ++ (new ++ back) ≡ marked_in byte bytes at count
  marks-range bytes front rest range back new at count parts front_len rest_parts range_len is =
      let whole : bytes ≡ front ++ (range ++ back) = parts ∙ ap (λ (l : List ℕ). front ++ l) rest_parts in
      let len : length bytes ≡ length front + length rest = ap length parts ∙ length-append front rest in
      let between : marked_in byte bytes (length front) (length range) ≡ front ++ (replicate (length range) byte ++ back) =
      ap (λ (l : List ℕ). marked_in byte l (length front) (length range)) whole ∙ marked_in-between front range back in
      ap (λ (l : List ℕ). front ++ (l ++ back)) is ∙ sym between ∙ sym (same len (cases_le at (length bytes)))
    where
      by_count : length bytes ≡ length front + length rest → length front ≡ at → (count ≤ length rest) ⊎ (length rest ≤ count) → marked_in byte bytes at count ≡ marked_in byte bytes at (length range)
      by_count len start (inl fits) = ap (λ (n : ℕ). marked_in byte bytes at n) (omega (arith, range_len, fits))
      by_count len start (inr over) = marked_in-end bytes at count (length range) (omega (arith, len, start, over)) (omega (arith, len, start, over, range_len))

      same : length bytes ≡ length front + length rest → (at ≤ length bytes) ⊎ (length bytes ≤ at) → marked_in byte bytes at count ≡ marked_in byte bytes (length front) (length range)
      same len (inr past) = marked_in-past bytes at count past ∙ sym (marked_in-past bytes (length front) (length range) (omega (arith, front_len, past)))
      same len (inl inside) =
          let start : length front ≡ at = omega (arith, front_len, inside) in
          subst (λ (n : ℕ). marked_in byte bytes at count ≡ marked_in byte bytes n (length range)) (sym start) (by_count len start (cases_le count (length rest)))

-- what is left by a crash that is picked is an image
pub image-picked : (pick : ℕ) (file : FileState) → AlterAll file.changes file.synced file.bytes → MayLeave file (crash_image pick file)
image-picked pick file own = image-left (pick % 4)
  where
    image-left : (n : ℕ) → MayLeave file (left_by n file)
    image-left zero = inr (alter_all-same file.changes file.synced)
    image-left (suc zero) = inl refl
    image-left (suc (suc zero)) = inr (image-marked ERASED_BYTE file.changes file.synced file.bytes own)
    image-left (suc (suc (suc n))) = inr (image-marked STRAY_BYTE file.changes file.synced file.bytes own)

length-marked : (byte : ℕ) (changes : List Change) (bytes : List ℕ) → length (marked byte changes bytes) ≡ length bytes
length-marked byte [] bytes = refl
length-marked byte (Written at count ∷ changes) bytes = length-marked byte changes (marked_in byte bytes at count) ∙ length-marked_in byte bytes at count
length-marked byte (CutTo at ∷ changes) bytes = length-marked byte changes bytes

-- there is room for what is left where there is room for the bytes and for those that were synced
pub length-picked : (pick capacity : ℕ) (file : FileState) → length file.synced ≤ capacity → length file.bytes ≤ capacity → length (crash_image pick file) ≤ capacity
length-picked pick capacity file synced bytes = length-left (pick % 4)
  where
    length-left : (n : ℕ) → length (left_by n file) ≤ capacity
    length-left zero = synced
    length-left (suc zero) = bytes
    length-left (suc (suc zero)) = omega (arith, bytes, length-marked ERASED_BYTE file.changes file.bytes)
    length-left (suc (suc (suc n))) = omega (arith, bytes, length-marked STRAY_BYTE file.changes file.bytes)
