use Rattle.std.proofs.Common.{◌≡◌, map, take}
use Rattle.wal_log.specs.LogValues.{numbers_of}
use Rattle.wal_log.proofs.contents.numbers_of.Given as goal

abbrev pub invariant-segments : goal.invariant-segments
invariant-segments l = l.numbers.items ≡ map numbers_of (take l.content-index l.segments)
