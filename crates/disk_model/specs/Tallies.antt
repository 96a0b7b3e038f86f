-- What a device in memory counts: its calls, which of them are to fail, and the units of those that did.
use Rattle.std.specs.Prelude.{◌≡◌, ◌==◌, ℕ, Bool, List, [], Result, Err, IsOk, IsErr, IfErr}
use Rattle.std.specs.Bool.{MatchBool}
use Rattle.std.specs.List.{list_any}
use Rattle.fault_count.specs.Counts.{one_more}
use Rattle.disk_model.specs.Books.{BookState}
use Rattle.disk_model.specs.declared.device_error.DeviceError.{DeviceError}
use Rattle.disk_model.specs.declared.device_error.DeviceError.TheVariants.{Fault, Memory}

-- the book of its failures, the numbers of the calls that are to fail, and how many calls were made
pub record TallyState : Type 0 where
  pub book : BookState
  pub failing : List ℕ
  pub calls : ℕ

-- whether the next call is to fail
abbrev pub is_listed : TallyState → Bool
is_listed tally = list_any (λ call. call == tally.calls) tally.failing

-- a call that is to fail does, and any other fails only where it is out of memory
abbrev pub FailsAsListed : {T : Type 0} → TallyState → Result T DeviceError → Type 0
FailsAsListed tally result = MatchBool (is_listed tally) (IsErr result) (IfErr result (λ e. e ≡ Memory))

-- a call that is to fail answers a fault of its book, and any other fails only where it is out of memory
abbrev pub ReadsAsListed : {T : Type 0} → TallyState → Result T DeviceError → Type 0
ReadsAsListed tally result = MatchBool (is_listed tally) (result ≡ Err (Fault tally.book.name)) (IfErr result (λ e. e ≡ Memory))

-- a call that is to fail answers a fault of its book, and any other succeeds
abbrev pub EndsAsListed : {T : Type 0} → TallyState → Result T DeviceError → Type 0
EndsAsListed tally result = MatchBool (is_listed tally) (result ≡ Err (Fault tally.book.name)) (IsOk result)

-- one call more
abbrev pub counted : TallyState → TallyState
counted tally = record tally { calls = one_more tally.calls }

-- after a crash: no call is to fail, and calls count from 0
abbrev pub restarted : TallyState → TallyState
restarted tally = record tally { failing = []; calls = 0 }
