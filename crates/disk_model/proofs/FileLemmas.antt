-- A file in memory stays sound. To know: sound-failed, sound-cut, sound-written, images-goes.
use Rattle.std.proofs.Common.{◌≡◌, ℕ, ◌+◌, ◌≤◌, min, List, [], ◌∷◌, ◌++◌, length, take, Result, Ok, Err, sym, ◌∙◌, ap, subst, arith, length-take}
use Rattle.std.proofs.lemmas.List.{take-take}
use Rattle.disk_model.specs.Crashes.{Follows}
use Rattle.disk_model.specs.FileState.{FileState, Alters, MayLeave, IsSoundFile, written, changed}
use Rattle.disk_model.specs.FileLaws.{torn_held, cut_taken, alters_same, alter_all-pushed, images-changed, images-same}
use Rattle.disk_model.specs.MemoryState.{MemoryState, HeldAfter, Goes}
use Rattle.disk_model.specs.declared.change.Change.{Change}
use Rattle.disk_model.specs.declared.change.Change.TheVariants.{Written, CutTo}
use Rattle.disk_model.specs.declared.device_error.DeviceError.{DeviceError}
use Rattle.disk_model.specs.declared.device_error.DeviceError.TheVariants.{Fault, Memory}

take_shorter : (m n : ℕ) (a b : List ℕ) → m ≤ n → take n a ≡ take n b → take m a ≡ take m b
take_shorter m n a b le same = sym (taken a) ∙ ap (take m) same ∙ taken b
  where
    taken : (l : List ℕ) → take m (take n l) ≡ take m l
    taken l = take-take m n l le

module _ (bytes synced : List ℕ) (changes : List Change) (same capacity synced_capacity : ℕ) (sound : IsSoundFile bytes synced changes same capacity synced_capacity) where
  -- a change that failed
  pub sound-failed : (change : Change) → IsSoundFile bytes synced (changes ++ change ∷ []) same capacity synced_capacity
  sound-failed change = record {
    front = sound.front;
    within = sound.within;
    within_synced = sound.within_synced;
    room = sound.room;
    synced_room = sound.synced_room;
    own = alter_all-pushed changes change synced bytes bytes sound.own (alters_same change bytes);
  }

  pub sound-cut : (at : ℕ) → at ≤ length bytes → IsSoundFile (take at bytes) synced (changes ++ CutTo at ∷ []) (min same at) capacity synced_capacity
  sound-cut at within = record {
    front = take_shorter (min same at) same synced bytes (omega arith) sound.front ∙ sym (take-take (min same at) at bytes (omega arith));
    within = omega (arith, sound.within, within, length-take at bytes);
    within_synced = omega (arith, sound.within_synced);
    room = sound.room;
    synced_room = omega (arith, sound.synced_room, length-take at bytes);
    own = alter_all-pushed changes (CutTo at) synced bytes (take at bytes) sound.own (cut_taken at bytes);
  }

  pub sound-written : (at : ℕ) (piece : List ℕ) (more synced_more : ℕ) → at ≤ length bytes → capacity ≤ more → synced_capacity ≤ synced_more → at + length piece ≤ synced_more
      → IsSoundFile (written at piece bytes) synced (changes ++ Written at (length piece) ∷ []) (min same at) more synced_more
  sound-written at piece more synced_more within grown synced_grown room =
      let torn = torn_held at piece bytes within in
      record {
        front = take_shorter (min same at) same synced bytes (omega arith) sound.front ∙ sym (take_shorter (min same at) at (written at piece bytes) bytes (omega arith) torn.before);
        within = omega (arith, sound.within, torn.no_shorter);
        within_synced = omega (arith, sound.within_synced);
        room = omega (arith, sound.room, grown);
        synced_room = omega (arith, sound.synced_room, synced_grown, room, torn.no_longer);
        own = alter_all-pushed changes (Written at (length piece)) synced bytes (written at piece bytes) sound.own torn;
      }

-- each image after a call is one from before it, altered
images-file : {T : Type 0} (change : Change) (old new : FileState) (bytes : List ℕ) (result : Result T DeviceError) → Alters change old.bytes bytes
    → HeldAfter old (λ file. file ≡ record (changed change old) { bytes = bytes }) (λ file. file ≡ changed change old) result new → Follows (Alters change) (MayLeave old) (MayLeave new)
images-file change old new bytes (Ok x) own after = subst (λ (f : FileState). Follows (Alters change) (MayLeave old) (MayLeave f)) (sym after) (images-changed old change bytes own)
images-file change old new bytes (Err (Fault unit)) own after = subst (λ (f : FileState). Follows (Alters change) (MayLeave old) (MayLeave f)) (sym after) (images-changed old change old.bytes (alters_same change old.bytes))
images-file change old new bytes (Err Memory) own after = subst (λ (f : FileState). Follows (Alters change) (MayLeave old) (MayLeave f)) (sym after) (images-same old change)

pub images-goes : {T : Type 0} {old new : MemoryState FileState} {result : Result T DeviceError} (change : Change) (bytes : List ℕ) → Alters change old.held.bytes bytes
    → Goes old new (λ file. file ≡ record (changed change old.held) { bytes = bytes }) (λ file. file ≡ changed change old.held) result → Follows (Alters change) (MayLeave old.held) (MayLeave new.held)
images-goes {T} {old} {new} {result} change bytes own goes = images-file change old.held new.held bytes result own goes.held
