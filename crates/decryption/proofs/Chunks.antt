-- A slice that is gone through in chunks of one size.
use Rattle.std.proofs.Common.{◌≡◌, ℕ, ◌+◌, ◌*◌, ◌<◌, ◌≤◌, List, ◌++◌, Some, None, length, take, drop, sym, ap, ◌∙◌, arith, length-append, length-drop}
use denote.Ref.{Bor}
use Rattle.std.proofs.Math.Nat.{mul-suc}
use Rattle.std.proofs.lemmas.List.{take_at, drop_at, drop-drop}
use Rattle.std.specs.Slice.Iter.{chunks_exact_rest, chunks_exact_size, chunks_exact_steps}
use Rattle.std.specs.declared.slice.ChunksExact.{ChunksExact}

-- the chunks of this size from number k on are left of the row
pub record Left (size k : ℕ) (row : List ℕ) (chunks : ChunksExact ℕ) : Type 0 where
  pub wide : 0 < size
  pub each : chunks_exact_size chunks ≡ size
  pub rest : chunks_exact_rest chunks ≡ drop (size * k) row
  pub room : size * k ≤ length row

-- the chunk that comes, and what is left after it
pub row_more : (size k : ℕ) (row whole x left : List ℕ) → whole ≡ drop (size * k) row → whole ≡ x ++ left → length x ≡ size →
    (x ≡ take size (drop (size * k) row)) × (left ≡ drop (size * (k + 1)) row)
row_more size k row whole x left e h n =
    let f : drop (size * k) row ≡ x ++ left = sym e ∙ h in
    let next : size * k + size ≡ size * (k + 1) = omega (arith, mul-suc size k) in (
      sym (ap (λ (l : List ℕ). take size l) f ∙ take_at x left size n),
      sym (drop_at x left size n) ∙ ap (λ (l : List ℕ). drop size l) (sym f) ∙ drop-drop size (size * k) row ∙ ap (λ (m : ℕ). drop m row) next,
    )

-- chunk k of the row, and what is left after it
pub record Comes (size k : ℕ) (row : List ℕ) (x : Bor (List ℕ)) (next : ChunksExact ℕ) : Type 0 where
  pub is : x.now ≡ take size (drop (size * k) row)
  pub long : length x.now ≡ size
  pub left : Left size (k + 1) row next

pub comes : (size k : ℕ) (row : List ℕ) (x : Bor (List ℕ)) (chunks next : ChunksExact ℕ) → Left size k row chunks → chunks_exact_steps chunks (Some x) next →
    Comes size k row x next
comes size k row x chunks next L h =
    let long : length x.now ≡ size = h.1.1 ∙ L.each in
    let more = row_more size k row (chunks_exact_rest chunks) x.now (chunks_exact_rest next) L.rest h.1.0 long in
    let whole : length (drop (size * k) row) ≡ length (x.now ++ chunks_exact_rest next) = ap (λ (l : List ℕ). length l) (sym L.rest ∙ h.1.0) in
    record {
      is = more.0;
      long = long;
      left = record {
        wide = L.wide;
        each = h.0 ∙ L.each;
        rest = more.1;
        room = omega (arith, L.wide, whole, long, mul-suc size k, length-drop (size * k) row, length-append x.now (chunks_exact_rest next));
      };
    }

-- where no chunk comes, the row ends before chunk k does
pub ends : (size k : ℕ) (row : List ℕ) (chunks next : ChunksExact ℕ) → Left size k row chunks → chunks_exact_steps chunks None next → length row < size * k + size
ends size k row chunks next L h =
    let short : length (chunks_exact_rest chunks) < chunks_exact_size chunks = h.1.0 in
    omega (arith, short, L.each, ap (λ (l : List ℕ). length l) L.rest, length-drop (size * k) row)
