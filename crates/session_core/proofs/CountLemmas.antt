-- How many failures replies tell. To know: `told_by_all-append`, `told_by_one`.
use Rattle.std.proofs.Common.{◌≡◌, ℕ, ◌+◌, ◌≤◌, List, [], ◌∷◌, ◌++◌, arith}
use Rattle.history_core.specs.declared.reply.Reply.{Reply}
use Rattle.history_core.specs.declared.reply.Reply.TheVariants.{Done, Value, Absent, Synced, Bye, BadMessage, DeviceFault, OutOfMemory, HistorySpent, NumbersSpent}
use Rattle.session_core.specs.Telling.{told_by, told_by_all}

pub told_by_all-append : (device : ℕ) (xs ys : List Reply) → told_by_all device (xs ++ ys) ≡ told_by_all device xs + told_by_all device ys
told_by_all-append device [] ys = omega arith
told_by_all-append device (x ∷ xs) ys = omega (arith, told_by_all-append device xs ys)

pub told_by_one : (device : ℕ) (reply : Reply) → told_by device reply ≤ 1
told_by_one device (DeviceFault failed) = grind arith
told_by_one device (Done number) = omega arith
told_by_one device (Value front value) = omega arith
told_by_one device (Absent front) = omega arith
told_by_one device (Synced number) = omega arith
told_by_one device Bye = omega arith
told_by_one device (BadMessage at code) = omega arith
told_by_one device OutOfMemory = omega arith
told_by_one device (HistorySpent number) = omega arith
told_by_one device (NumbersSpent number) = omega arith
