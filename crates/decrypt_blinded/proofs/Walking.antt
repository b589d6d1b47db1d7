-- A walk over the factors and the random bytes of each product after the first.
use Rattle.std.proofs.Common.{◌≡◌, ℕ, ◌+◌, ◌-◌, ◌*◌, ◌⊎◌, List, None, length, ⊎_elim, arith}
use denote.Ref.{Bor}
use Rattle.std.specs.Slice.Iter.{chunks_exact_steps}
use Rattle.std.specs.declared.slice.ChunksExact.{ChunksExact}
use Rattle.decryption.proofs.Chunks.{Left, Comes, ends}

-- after n products more than the first
pub record Walked (n : ℕ) (us ss bytes : List ℕ) (u s b : ChunksExact ℕ) : Type 0 where
  pub u_left : Left 256 (n + 1) us u
  pub s_left : Left 256 (n + 1) ss s
  pub bytes_left : Left 612 (n + 1) bytes b

pub walked_more : (n : ℕ) (us ss bytes : List ℕ) (u' s' b' : ChunksExact ℕ) (x y z : Bor (List ℕ)) → Comes 256 (n + 1) us x u' → Comes 256 (n + 1) ss y s' →
    Comes 612 (n + 1) bytes z b' → Walked (n + 1) us ss bytes u' s' b'
walked_more n us ss bytes u' s' b' x y z a b c = record { u_left = a.left; s_left = b.left; bytes_left = c.left }

-- no chunk comes
abbrev pub Ended : ChunksExact ℕ → Type 0
Ended chunks = (next : ChunksExact ℕ) × chunks_exact_steps chunks None next

-- the walk ends after all products
pub walked_all : {F : Type 0} (n rank : ℕ) (us ss bytes : List ℕ) (u s b : ChunksExact ℕ) → length us ≡ 256 * rank → length ss ≡ 256 * rank → length bytes ≡ 612 * rank + 354 →
    Walked n us ss bytes u s b → (F × (Ended u ⊎ Ended s)) ⊎ Ended b → n ≡ rank - 1
walked_all n rank us ss bytes u s b u_size s_size size W h =
    let room = W.u_left.room in
    ⊎_elim
    (λ h. ⊎_elim (λ e. omega (arith, room, u_size, ends 256 (n + 1) us u e.0 W.u_left e.1)) (λ e. omega (arith, room, s_size, ends 256 (n + 1) ss s e.0 W.s_left e.1)) h.1)
    (λ e. omega (arith, room, size, ends 612 (n + 1) bytes b e.0 W.bytes_left e.1)) h
