-- What a script does to the bytes of its streams and of its devices, by its status.
use Rattle.std.specs.Prelude.{◌≡◌, ◌⊎◌, ◌↔◌, ℕ, ◌-◌, ◌+◌, ◌^◌, ◌<◌, ◌≤◌, List, [], ◌∷◌, ◌++◌, length, drop, Option, Some, None, IfSome}
use Rattle.std.specs.List.{AllByRecursion}
use Rattle.fault_count.specs.Counts.{Rose, sum_of}
use Rattle.disk_model.specs.Piles.{Units, number_at, book_at}
use Rattle.history_core.specs.declared.request.Request.{Request}
use Rattle.history_core.specs.declared.reply.Reply.{Reply}
use Rattle.history_core.specs.Sessions.{IsSession}
use Rattle.history_core.specs.Passes.{PassState, front_of, map_of}
use Rattle.history_core.specs.PassLaws.{SyncedWithin, ArePlain}
use Rattle.wire_protocol.specs.Grammar.{spell_requests, IsRequest}
use Rattle.store_run.specs.Reopening.{Reopens, ReopensTo, ReopensWithin, ReopensAlike}
use Rattle.session_core.specs.declared.limits.TheConstants.{SESSION_MAX}
use Rattle.session_core.specs.declared.session_end.SessionEnd.{SessionEnd}
use Rattle.session_core.specs.Answering.{PassAnswers, operations_of}
use Rattle.session_core.specs.Conversations.{EndsWithQuit, SessionEnds, scene_of}
use Rattle.session_core.specs.Laws.{AreRepliesOf, Begins}
use Rattle.host_model.specs.HostState.{HostState, DeviceBytes, StreamBytes}
use Rattle.remixdb.specs.Outcomes.{IsCleanOfDevices, IsCleanOfStreams, IsOfSession, outcome_of_end, status_of}
use Rattle.remixdb.specs.Words.{IsScript}

-- What contracts see of a host that has all at home: what its source has left and what its sink took; what its first
-- strip, which has the log, its other strips and its shelf hold, each where contracts can see it; and how often a device
-- and a stream failed.
pub record HomeState : Type 0 where
  pub input : Option (List ℕ)
  pub output : Option (List ℕ)
  pub strip : Option (List ℕ)
  pub others : List (Option (List ℕ))
  pub files : Option (ℕ → Option (List ℕ))
  pub device_faults : ℕ
  pub stream_faults : ℕ

-- the bytes of the first strip
abbrev pub first_bytes : List (Option (List ℕ)) → Option (List ℕ)
first_bytes (bytes ∷ others) = bytes
first_bytes [] = None

abbrev pub devices_at_home : Option DeviceBytes → DeviceBytes
devices_at_home (Some devices) = devices
devices_at_home None = record { strips = []; files = None }

abbrev pub streams_at_home : Option StreamBytes → StreamBytes
streams_at_home (Some streams) = streams
streams_at_home None = record { input = None; output = None }

abbrev pub home_of : HostState → HomeState
home_of host = record {
  input = (streams_at_home host.streams.home).input;
  output = (streams_at_home host.streams.home).output;
  strip = first_bytes (devices_at_home host.devices.home).strips;
  others = drop 1 (devices_at_home host.devices.home).strips;
  files = (devices_at_home host.devices.home).files;
  device_faults = host.devices.faults;
  stream_faults = host.streams.faults;
}

-- this holds of the first strip's bytes, where contracts can see them
abbrev pub OfStrip : HomeState → (List ℕ → Type 0) → Type 0
OfStrip home P = (bytes : List ℕ) → home.strip ≡ Some bytes → P bytes

-- This holds of the first strip's bytes and of each crash image of them, where contracts can see them. `leaves` says what
-- a crash may leave.
abbrev pub OfImages : (List ℕ → Type 0) → HomeState → (List ℕ → Type 0) → Type 0
OfImages leaves home P = (bytes : List ℕ) → home.strip ≡ Some bytes → P bytes × ((image : List ℕ) → leaves image → P image)

-- all devices but the first strip hold what they held
pub record OthersStay (old new : HomeState) : Type 0 where
  pub strips : new.others ≡ old.others
  pub files : new.files ≡ old.files

-- nothing was taken and nothing put
pub record IsSilent (old new : HomeState) : Type 0 where
  pub input : new.input ≡ old.input
  pub output : new.output ≡ old.output

-- The replies of a session to its requests are those of one ordered map that nobody else changes: it began with the rows
-- and the number that the pass had seen, and the history that the pass has then seen has its updates, once each and in
-- order. No SYNCED names a number above that below which each entry is known to be synced.
pub record IsOneSession (pass now : PassState) (asked : List Request) (answered : List Reply) : Type 0 where
  pub session : IsSession pass.seen.base pass.seen.first asked answered
  pub replies : AreRepliesOf pass now asked answered
  pub plain : ArePlain pass.seen.base pass.seen.first (operations_of asked answered)
  pub synced : SyncedWithin now.safe (operations_of asked answered)

-- A script that served a session, how it ended, and what its one caller knew before and after.
pub record Served (leaves : List ℕ → Type 0) (old new : HomeState) : Type 0 where
  pub end : SessionEnd
  pub decided : ℕ
  pub pass : PassState
  pub now : PassState
  pub units : List (Option Units)
  -- which requests came, which replies were put, and why the session ended
  pub ends : SessionEnds end 0 (scene_of old.input old.output pass []) (scene_of new.input new.output now units) decided
  -- it began with the map and the number to which the devices reopen, and with no update of its own
  pub begins : Begins pass
  pub begun : OfStrip old (ReopensTo pass.seen.base pass.seen.first)
  -- nobody else's entry was seen, and the replies are those of one ordered map
  pub own : AllByRecursion (λ entry. entry.caller ≡ 0) now.seen.entries
  pub session : (asked : List Request) (answered : List Reply) → PassAnswers pass asked answered now →
      IsOneSession pass now asked answered
  -- the devices reopen to the map after the first so many entries, no fewer than are known to be synced
  pub left : OfImages leaves new (ReopensWithin now.seen now.safe)
  -- each failure that was told is a unit of device 0's book, and was counted
  pub devices : (device : ℕ) → IfSome (book_at units device) (λ book. book.device ≡ 0)
  pub counted : sum_of old.device_faults (number_at units 0) ≤ new.device_faults

-- the devices reopen to the map after all entries
abbrev pub HasAll : (List ℕ → Type 0) → HomeState → PassState → Type 0
HasAll leaves new now = OfImages leaves new (ReopensTo (map_of now) (front_of now))

-- where each failure of a device that the host counted was told in a reply, the devices have all entries
abbrev pub HasAllIfTold : (List ℕ → Type 0) → HomeState → HomeState → PassState → List (Option Units) → Type 0
HasAllIfTold leaves old new now units = new.device_faults ≡ old.device_faults + number_at units 0
    → new.device_faults < 2 ^ 64 - 1 → HasAll leaves new now

-- nothing was taken, put or written
pub record IsIdle (old new : HomeState) : Type 0 where
  pub silent : IsSilent old new
  pub strip : new.strip ≡ old.strip

-- No session was served: nothing was taken or put, and what reopened to a map before reopens to the same. So does each
-- crash image, or a crash might have left it before.
pub record NotServed (left leaves : List ℕ → Type 0) (old new : HomeState) : Type 0 where
  pub silent : IsSilent old new
  pub alike : OfStrip old (λ before. OfStrip new (ReopensAlike before))
  pub images : OfStrip old (λ before. OfStrip new (λ _. (image : List ℕ) → leaves image → left image ⊎ ReopensAlike before image))

-- Bytes that are whole requests: up to a QUIT, after which anything may stand, or to their end.
abbrev pub IsWellFormed : List ℕ → Type 0
IsWellFormed input = (requests : List Request) × (rest : List ℕ) × AllByRecursion IsRequest requests
    × (input ≡ spell_requests requests ++ rest) × (EndsWithQuit requests ⊎ (rest ≡ []))

-- What a script with this status made of the bytes. `left` and `leaves` say what a crash may leave of the first strip
-- before it and after it.
pub record ScriptEnds (status : ℕ) (left leaves : List ℕ → Type 0) (old new : HomeState) : Type 0 where
  -- a session ended so, no failure of a device was told, and the devices have all entries
  pub ended : IsOfSession status → (s : Served leaves old new) × (status ≡ status_of (outcome_of_end s.end))
      × ((device : ℕ) → number_at s.units device ≡ 0) × HasAll leaves new s.now
  -- opening refused the devices, which reopen to no map
  pub refused : status ≡ 3 → IsIdle old new × OfStrip old (λ bytes. Reopens bytes → ⊥)
  -- a device failed before a session, or one was served all the same
  pub failed : status ≡ 4 → NotServed left leaves old new ⊎ ((s : Served leaves old new) × HasAllIfTold leaves old new s.now s.units)
  pub short : status ≡ 6 → NotServed left leaves old new ⊎ Served leaves old new
  -- over devices that reopen to no map nothing is taken, put or written, whatever the status
  pub idle : OfStrip old Reopens ⊎ IsIdle old new
  pub others : OthersStay old new
  -- input that is well formed does not end badly
  pub complete : (input : List ℕ) → old.input ≡ Some input → IsWellFormed input → length input < SESSION_MAX → status ≡ 1 → ⊥

-- What the host's counts of faults say of a status: 4 comes only if a fault of a device was counted, and 5 only if one
-- of a stream was; a status of lower rank comes only if none was.
pub record HasCauses (status : ℕ) (old new : HostState) : Type 0 where
  pub device_failed : status ≡ 4 → Rose old.devices.faults new.devices.faults
  pub device_kept : IsCleanOfDevices status → new.devices.faults ≡ old.devices.faults
  pub stream_failed : status ≡ 5 → Rose old.streams.faults new.streams.faults
  pub stream_kept : IsCleanOfStreams status → new.streams.faults ≡ old.streams.faults

-- what the program does on these words, with this status
pub record HasRun (words : List (List ℕ)) (status : ℕ) (left leaves : List ℕ → Type 0) (old new : HostState) : Type 0 where
  pub refused : (status ≡ 2) ↔ (IsScript words → ⊥)
  pub idle : (IsScript words → ⊥) → new ≡ old
  pub least : status ≤ 6
  pub causes : HasCauses status old new
  pub bytes : IsScript words → ScriptEnds status left leaves (home_of old) (home_of new)
