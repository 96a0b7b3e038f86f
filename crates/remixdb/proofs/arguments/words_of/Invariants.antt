use Rattle.std.proofs.Common.{◌≡◌, map, take, string_bytes}
use Rattle.remixdb.proofs.arguments.words_of.Given as goal

abbrev pub invariant-words : goal.invariant-words
invariant-words l = l.words.items ≡ map string_bytes (take l.argument-index l.rest)
