-- What is kept for the next adding. To know: `may_be-same`, `fits-ready`, `ready-taken`.
use Rattle.std.proofs.Common.{◌≡◌, ℕ, ◌+◌, ◌-◌, ◌≤◌, true, List, length, take, refl, sym, ap, ◌∙◌, subst, arith}
use Rattle.std.specs.Prelude.{Option, Some, None, is_some}
use Rattle.rdb_base.proofs.PlaceLemmas.{some_injective}
use Rattle.meta_trie.specs.declared.leaf_entry.LeafEntry.{LeafEntry}
use Rattle.meta_trie.specs.declared.limits.TheConstants.{NODES_MAX}
use Rattle.meta_trie.specs.declared.ready.Ready.{Ready}
use Rattle.meta_trie.specs.declared.table.Table.{Table}
use Rattle.meta_trie.specs.Leaves.{all_of, rest_of}
use Rattle.meta_trie.specs.Readiness.{IsTrie, IsReady, MayBeReady, anchor_of}
use Rattle.meta_trie.specs.Tables.{node_at, count_of, room_of}
use Rattle.meta_trie.specs.Tries.{Anchored, nodes_of, nodes_for}

-- more room changes nothing of it
ready-same : (xs ys : List LeafEntry) (s t : Table) (r : Ready) → ys ≡ xs → ((p : List ℕ) → node_at t p ≡ node_at s p) → count_of t ≡ count_of s → room_of s ≤ room_of t
    → IsReady xs s r → IsReady ys t r
ready-same xs ys s t r e h count room is = subst (λ (zs : List LeafEntry). IsReady zs t r) (sym e) (record {
  within = is.within;
  there = λ n le. ap is_some (h (take n r.anchor.items)) ∙ is.there n le;
  absent = λ n lt le. h (take n r.anchor.items) ∙ is.absent n lt le;
  best = is.best;
  made = is.made;
  room = omega (arith, is.room, room);
  deepest = is.deepest;
  fits = omega (arith, is.fits, count);
})

pub may_be-same : (xs ys : List LeafEntry) (s t : Table) (few more : Type 0) (kept : Option Ready) → ys ≡ xs → ((p : List ℕ) → node_at t p ≡ node_at s p) → count_of t ≡ count_of s
    → room_of s ≤ room_of t → (few → more) → MayBeReady xs few s kept → MayBeReady ys more t kept
may_be-same xs ys s t few more None e h count room f is = tt
may_be-same xs ys s t few more (Some r) e h count room f is = (ready-same xs ys s t r e h count room is.0, f is.1)

-- the anchor that is prepared fits
pub fits-ready : (leaves : List LeafEntry) (room : Type 0) (table : Table) (kept : Option Ready) (anchor : List ℕ) → IsTrie leaves table → MayBeReady leaves room table kept
    → anchor_of kept ≡ Some anchor → nodes_of (rest_of (all_of leaves)) + nodes_for (rest_of (all_of leaves)) anchor ≤ NODES_MAX
fits-ready leaves room table None anchor trie is e = absurd cc
fits-ready leaves room table (Some r) anchor trie is e =
    let added : List Anchored = rest_of (all_of leaves) in
    let same : r.anchor.items ≡ anchor = some_injective r.anchor.items anchor e in
    let len : nodes_for added r.anchor.items ≡ length r.anchor.items - r.len = ap (λ (n : ℕ). length r.anchor.items - n) (sym is.0.deepest) in
    subst (λ (z : List ℕ). nodes_of added + nodes_for added z ≤ NODES_MAX) same (omega (arith, is.0.fits, trie.count, len))

-- what is taken is ready for its anchor
pub ready-taken : (leaves : List LeafEntry) (room : Type 0) (table : Table) (kept : Option Ready) (r : Ready) (anchor : List ℕ) → kept ≡ Some r → MayBeReady leaves room table kept
    → anchor_of kept ≡ Some anchor → IsReady leaves table r × room × (r.anchor.items ≡ anchor)
ready-taken leaves room table None r anchor is kept e = absurd cc
ready-taken leaves room table (Some s) r anchor is kept e =
    let same : s ≡ r = one s r is in
    (subst (λ (z : Ready). IsReady leaves table z) same kept.0, kept.1, ap (λ (z : Ready). z.anchor.items) (sym same) ∙ some_injective s.anchor.items anchor e)
  where
    one : (s r : Ready) → Some s ≡ Some r → s ≡ r
    one s r e = cc

pub is_some-kept : (kept : Option Ready) (anchor : List ℕ) → anchor_of kept ≡ Some anchor → is_some kept ≡ true
is_some-kept None anchor e = absurd cc
is_some-kept (Some r) anchor e = refl
