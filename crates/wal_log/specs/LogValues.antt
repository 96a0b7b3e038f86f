-- What a log of several segments is read as.
use Rattle.std.specs.Prelude.{◌≡◌, ℕ, ◌+◌, ◌≤◌, List, [], ◌∷◌, length, nat_lt}
use Rattle.rdb_base.specs.declared.entry.Entry.{Entry}
use Rattle.rdb_base.specs.declared.limits.TheConstants.{NUMBER_MAX}
use Rattle.wal_log.specs.declared.segment_numbers.SegmentNumbers.{SegmentNumbers}

-- a live segment: its number, its first entry's, and its entries
pub record SegmentValue : Type 0 where
  pub segment : ℕ
  pub first : ℕ
  pub entries : List Entry

-- the number of the first entry, the one after the last, and the live segments in order
pub record LogValue : Type 0 where
  pub start : ℕ
  pub end : ℕ
  pub segments : List SegmentValue

-- the number after the last entry of segments of which the first begins with this number
abbrev pub end_from : ℕ → List SegmentValue → ℕ
end_from first [] = first
end_from first (segment ∷ segments) = end_from (first + length segment.entries) segments

-- they are numbered one after another, from this number on
abbrev pub AreNumberedFrom : ℕ → List SegmentValue → Type 0
AreNumberedFrom number [] = Unit {0}
AreNumberedFrom number (segment ∷ segments) = (segment.segment ≡ number) × AreNumberedFrom (number + 1) segments

-- they are numbered one after another
abbrev pub AreNumbered : List SegmentValue → Type 0
AreNumbered [] = Unit {0}
AreNumbered (segment ∷ segments) = AreNumberedFrom (segment.segment + 1) segments

-- each begins with the number after the entries before it, the first with this number
abbrev pub ArePlaced : ℕ → List SegmentValue → Type 0
ArePlaced first [] = Unit {0}
ArePlaced first (segment ∷ segments) = (segment.first ≡ first) × ArePlaced (first + length segment.entries) segments

-- what each content of a log meets: its segments are numbered one after another, and each begins where the entries before
-- it end
pub record IsContent (log : LogValue) : Type 0 where
  pub numbered : AreNumbered log.segments
  pub placed : ArePlaced log.start log.segments
  pub end : log.end ≡ end_from log.start log.segments
  pub most : log.end ≤ NUMBER_MAX

-- what is kept of a live segment without its entries
abbrev pub numbers_of : SegmentValue → SegmentNumbers
numbers_of segment = record { segment = segment.segment; first = segment.first; has_entries = nat_lt 0 (length segment.entries) }
