-- Lists of 256 words under a map, from what a loop has seen of each.
use Rattle.std.proofs.Common.{◌≡◌, ℕ, suc, ◌+◌, ◌*◌, ◌<◌, List, [], ◌∷◌, map, length, get_or, sym, refl, ap, ◌∙◌, arith}
use Rattle.std.proofs.lemmas.List.{get_or-map}
use Rattle.std.proofs.lemmas.Simd.{map-map}
use Rattle.histories.specs.Calls.{part}
use Rattle.histories.proofs.Basics.{part_size}
use Rattle.registers.proofs.Rows.{part_at}

pub map_at : {W : Type 0} (f : W → ℕ) (ws : List W) (ys : List ℕ) → length ws ≡ length ys →
    ((k : ℕ) (d : W) → k < length ws → f (get_or ws k d) ≡ get_or ys k 0) → map f ws ≡ ys
map_at f [] [] e h = refl
map_at f [] (y ∷ ys) e h = absurd (omega arith)
map_at f (w ∷ ws) [] e h = absurd (omega arith)
map_at f (w ∷ ws) (y ∷ ys) e h = rw (h 0 w (omega arith), map_at f ws ys (omega arith) (λ k d l. h (suc k) d (omega arith)))

pub map_map_at : {W : Type 0} (g : ℕ → ℕ) (f : W → ℕ) (ws : List W) (ys : List ℕ) → length ws ≡ length ys →
    ((k : ℕ) (d : W) → k < length ws → g (f (get_or ws k d)) ≡ get_or ys k 0) → map g (map f ws) ≡ ys
map_map_at g f ws ys e h = map-map g f ws ∙ map_at (λ x. g (f x)) ws ys e h

-- what a word that was read means, among the meanings of its register
pub read_number : {W : Type 0} (meaning : W → ℕ) (ws : List W) (r k : ℕ) (x : W) → length ws ≡ 2048 → r < 8 → k < 256 →
    ((e : W) → x ≡ get_or ws (256 * r + k) e) → meaning x ≡ get_or (map meaning (part ws r)) k 0
read_number meaning ws r k x size known l e =
    ap meaning (e x ∙ sym (part_at ws r k x l)) ∙ sym (get_or-map meaning (part ws r) k x 0 (omega (arith, part_size ws size r known)))
