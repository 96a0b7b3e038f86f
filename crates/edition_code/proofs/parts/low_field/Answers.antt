use Rattle.std.proofs.Common.{rules}
use Rattle.rdb_base.specs.PairFields.{key_field_at}
use Rattle.edition_code.proofs.parts.low_field.Goals as goal

pub returns-in_err-len : goal.returns-in_err-len
unfolding key_field_at
returns-in_err-len c = search rules

pub returns-then-len-eq0 : goal.returns-then-len-eq0
unfolding key_field_at
returns-then-len-eq0 c = search rules

pub returns-then-len-gt-LOW_MAX : goal.returns-then-len-gt-LOW_MAX
unfolding key_field_at
returns-then-len-gt-LOW_MAX c = search rules

pub returns : goal.returns
unfolding key_field_at
returns c = search rules
