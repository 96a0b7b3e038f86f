use Rattle.std.proofs.Common.{◌≡◌, take}
use Rattle.remix_seek.proofs.anchor_keys.copied.Given as goal

abbrev pub invariant-keys : goal.invariant-keys
invariant-keys l = l.copy.items ≡ take l.key-index l.keys
