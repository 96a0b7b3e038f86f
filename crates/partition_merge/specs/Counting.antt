-- The count of a merge: the sizes of its rows, and the parts that a split would cut them into.
use Rattle.std.specs.Prelude.{◌≡◌, ℕ, zero, suc, ◌+◌, ◌-◌, ◌^◌, min, ◌&&◌, nat_lt, List, length, if◌then◌else◌}
use Rattle.rdb_base.specs.PageLaws.{rows_size}
use Rattle.rdb_base.specs.declared.row.Row.{Row}
use Rattle.partition_plan.specs.declared.limits.TheConstants.{PART_MAX}
use Rattle.partition_plan.specs.Cuts.{cut_rows, cut_after}
use Rattle.partition_merge.specs.declared.counted.Counted.{Counted}
use Rattle.partition_merge.specs.Merging.{within_u64}

-- a number that stands still at the greatest one of 32 bits
abbrev pub within_u32 : ℕ → ℕ
within_u32 n = min n (2 ^ 32 - 1)

-- the count with a row of this size more: it goes into the open part, or closes that and opens the next
abbrev pub counted_with : Counted → ℕ → Counted
counted_with counted more =
    if nat_lt 0 counted.filled && nat_lt PART_MAX (within_u64 (counted.filled + more))
    then record { merged = within_u64 (counted.merged + more); filled = more; parts = within_u32 (counted.parts + 1) }
    else record { merged = within_u64 (counted.merged + more); filled = within_u64 (counted.filled + more); parts = counted.parts }

-- what an open part of this size takes of rows, and the parts after it; without a row it takes the first one whatever its size
abbrev pub cut_left : ℕ → List Row → List (List Row)
cut_left zero rows = cut_rows PART_MAX rows
cut_left (suc size) rows = cut_after PART_MAX (suc size) rows

-- what was counted of rows, where these are left of them
pub record IsCount (all left : List Row) (counted : Counted) : Type 0 where
  pub size : ℕ
  pub filled : ℕ
  pub parts : ℕ
  pub merged_told : counted.merged ≡ within_u64 size
  pub filled_told : counted.filled ≡ within_u64 filled
  pub parts_told : counted.parts ≡ within_u32 parts
  pub sizes : size + rows_size left ≡ rows_size all
  pub cut : parts + length (cut_left filled left) ≡ 1 + length (cut_rows PART_MAX all)
