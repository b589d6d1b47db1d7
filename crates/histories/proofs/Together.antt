-- Sums, differences and products go with the transform; the witnesses compute; and a sum, a difference or a product with a witness
-- determines the other operand.
use Rattle.std.proofs.Common.{◌≡◌, ℕ, zero, suc, pred, ◌+◌, ◌-◌, ◌*◌, ◌/◌, ◌%◌, ◌^◌, ◌<◌, Bool, true, false, cond, ltb, List, sym, refl, ap, ◌∙◌, ap₂, mod-lt, arith, lit<}
use Rattle.std.proofs.lemmas.Bool.{false≢true}
use Rattle.algebra.specs.Congruence.{Same}
use Rattle.algebra.specs.Layers.{ntt}
use Rattle.algebra.specs.Product.{turned, product_mod, product, base_product, ones}
use Rattle.algebra.specs.Slots.{size, gamma}
use Rattle.algebra.specs.Polynomials.{coefficient, listed, inverse_transform}
use Rattle.algebra.specs.Theorems.{Laws}
use Rattle.algebra.proofs.Modular.{same_of, same_refl, same_sym, ◌⨾◌, same_by, same_add, same_mul, same_mul_left, same_mul_right, same_mod, same_sub}
use Rattle.algebra.proofs.Sums.{sum_cong, sum_scale}
use Rattle.algebra.proofs.Linear.{layers_scale}
use Rattle.algebra.proofs.Main.{ntt_cong, ntt_add}
use Rattle.algebra.proofs.Ring.{product_same, product_comm}
use Rattle.algebra.proofs.Ones.{ones_square, by_ones}
use Rattle.algebra.proofs.Lists.{listed_same, listed_is, listed_cong, listed_polynomial}
use Rattle.algebra.proofs.Theorems.{transforms}
use Rattle.histories.specs.declared.register.Form.{Form}
use Rattle.histories.specs.declared.register.Form.TheVariants.{Empty, Natural, Transformed, Rising, Falling}
use Rattle.histories.specs.Operations.{Base, neg, inverse_of_128, Good, sum_of, difference_of, product_of, slot_product_of, transform_of, inverse_of, witness}
use Rattle.histories.specs.Forms.{in_form}
use Rattle.histories.specs.Calls.{Operation, plus, minus, times, joins}
use Rattle.histories.specs.Serves.{combined, first_number, second_number}
use Rattle.histories.specs.Ledger.{result}
use Rattle.histories.proofs.Asked.{Regular, Simple}
use Rattle.histories.proofs.Cancelling.{cancel_add, cancel_minus}
use Rattle.histories.proofs.Injective.{agree, from_listed}

pub result_good : (B : Base) (o : Operation) (f g : List ℕ) → Good B (result B o f g)
unfolding sum_of difference_of product_of
result_good B plus f g = listed_polynomial (neg B) _
result_good B minus f g = listed_polynomial (neg B) _
result_good B times f g = listed_polynomial (neg B) _

pub witness_good : (B : Base) (a b : ℕ) → Good B (witness B a b)
unfolding witness
witness_good B a b = listed_polynomial (neg B) _

pub inverse_good : (B : Base) (f : List ℕ) → Good B (inverse_of B f)
unfolding inverse_of
inverse_good B f = listed_polynomial (neg B) _

-- in a slot of two coefficients
base_comm : (w : ℕ) (f g : ℕ → ℕ) (j : ℕ) → base_product 7 w f g j ≡ base_product 7 w g f j
unfolding base_product
base_comm w f g j =
    product_comm (size 7) (gamma 7 w (j / size 7)) (λ k. f (j / size 7 * size 7 + k)) (λ k. g (j / size 7 * size 7 + k)) (j % size 7) (mod-lt j (lit< tt))

pub mod_same : (m x : ℕ) → 0 < m → Same (pred m) (x % m) x
mod_same zero x h = absurd (omega arith)
mod_same (suc m) x h = same_mod x

sub_same : (m a t : ℕ) → t < m → Same (pred m) ((a + (m - t)) % m) (a + pred m * t)
sub_same zero a t h = absurd (omega arith)
sub_same (suc m) a t h = same_mod (a + (suc m - t)) ⨾ same_sub a t (omega arith)

turned_scale : (neg b : ℕ) (g : ℕ → ℕ) (i k : ℕ) → turned 256 neg (λ j. b * g j) i k ≡ b * turned 256 neg g i k
unfolding turned
turned_scale neg b g i k = go (ltb k i)
  where
    go : (t : Bool) → cond t (neg * (b * g (256 + k - i))) (b * g (k - i)) ≡ b * cond t (neg * g (256 + k - i)) (g (k - i))
    go true = omega arith
    go false = refl

product_scale : (neg a b : ℕ) (f g : ℕ → ℕ) (k : ℕ) → product neg (λ j. a * f j) (λ j. b * g j) k ≡ a * b * product neg f g k
unfolding product_mod
product_scale neg a b f g k =
    sum_cong 256 _ (λ i. a * b * (f i * turned 256 neg g i k)) (λ i h. rw (turned_scale neg b g i k) (omega arith))
    ∙ sum_scale 256 (a * b) (λ i. f i * turned 256 neg g i k)

witness_at : (B : Base) (a b j : ℕ) → j < 256 → Same (neg B) (coefficient (witness B a b) j) (a + b * (2 * j + neg B * 254))
unfolding witness
witness_at B a b j h = listed_same (λ k. a + b * (2 * k + neg B * 254)) j h

witness_ones : (B : Base) (a : ℕ) (j : ℕ) → j < 256 → Same (neg B) (coefficient (witness B a 0) j) (a * ones j)
witness_ones B a j h = witness_at B a 0 j h ⨾ same_of (omega arith)

module _ (B : Base) (pos : 0 < B.modulus) where
  witness_plus : (a b a' b' : ℕ) → sum_of B (witness B a b) (witness B a' b') ≡ witness B ((a + a') % B.modulus) ((b + b') % B.modulus)
  unfolding sum_of witness
  witness_plus a b a' b' =
      let n = neg B in
      listed_cong _ _ (λ j h.
      same_add (listed_same (λ k. a + b * (2 * k + neg B * 254)) j h) (listed_same (λ k. a' + b' * (2 * k + neg B * 254)) j h)
      ⨾ same_of {y = (a + a') + (b + b') * (2 * j + n * 254)} (omega arith)
      ⨾ same_add (same_sym (mod_same B.modulus (a + a') pos)) (same_mul_right (2 * j + n * 254) (same_sym (mod_same B.modulus (b + b') pos))))

  witness_minus : (a b a' b' : ℕ) → a' < B.modulus → b' < B.modulus →
      difference_of B (witness B a b) (witness B a' b') ≡ witness B ((a + (B.modulus - a')) % B.modulus) ((b + (B.modulus - b')) % B.modulus)
  unfolding difference_of witness
  witness_minus a b a' b' ha hb =
      let n = neg B in
      listed_cong _ _ (λ j h.
      same_add (listed_same (λ k. a + b * (2 * k + neg B * 254)) j h) (same_mul_left n (listed_same (λ k. a' + b' * (2 * k + neg B * 254)) j h))
      ⨾ same_of {y = (a + n * a') + (b + n * b') * (2 * j + n * 254)} (omega arith)
      ⨾ same_add (same_sym (sub_same B.modulus a a' ha)) (same_mul_right (2 * j + n * 254) (same_sym (sub_same B.modulus b b' hb))))

  witness_times : (a a' : ℕ) → product_of B (witness B a 0) (witness B a' 0) ≡ witness B 0 ((a * a') % B.modulus)
  unfolding product_of
  witness_times a a' =
      let n = neg B in
      listed_is _ _ (witness_good B 0 ((a * a') % B.modulus)) (λ j h.
      let K = product n ones ones j in
      let square : Same n K (2 * j + n * 254) = same_by {y = K + 254 + n * 254} 254 0 (omega arith) ⨾ same_add (ones_square n j h) same_refl in
      product_same 256 n (coefficient (witness B a 0)) (coefficient (witness B a' 0)) (λ j. a * ones j) (λ j. a' * ones j) (witness_ones B a) (witness_ones B a') j h
      ⨾ same_of (product_scale n a a' ones ones j)
      ⨾ same_mul (same_sym (mod_same B.modulus (a * a') pos)) square
      ⨾ same_of {y = 0 + (a * a') % B.modulus * (2 * j + n * 254)} (omega arith)
      ⨾ same_sym (witness_at B 0 ((a * a') % B.modulus) j h))

  pub witnesses : (o : Operation) (a b a' b' : ℕ) → a' < B.modulus → b' < B.modulus → Simple o b b' →
      result B o (witness B a b) (witness B a' b') ≡ witness B (first_number B.modulus o a a') (second_number B.modulus o a b a' b')
  witnesses plus a b a' b' ha hb s = witness_plus a b a' b'
  witnesses minus a b a' b' ha hb s = witness_minus a b a' b' ha hb
  witnesses times a b a' b' ha hb s = rw (s.0, s.1) (witness_times a a')

module _ (B : Base) (root : Same (neg B) (B.root ^ (2 ^ 7)) (neg B)) (unit : Same (neg B) (inverse_of_128 B * 2 ^ 7) 1) where
  laws : Laws 7 (neg B) B.root (inverse_of_128 B)
  laws = transforms 7 (neg B) B.root (inverse_of_128 B) (omega arith) root unit

  same_transform : (f g : ℕ → ℕ) → ((j : ℕ) → j < 256 → Same (neg B) (f j) (g j)) → (j : ℕ) → j < 256 → Same (neg B) (ntt 7 (neg B) B.root f j) (ntt 7 (neg B) B.root g j)
  same_transform = ntt_cong 7 B.root (omega arith) root (inverse_of_128 B) unit

  adds : (f g : ℕ → ℕ) (j : ℕ) → j < 256 → Same (neg B) (ntt 7 (neg B) B.root (λ j. f j + g j) j) (ntt 7 (neg B) B.root f j + ntt 7 (neg B) B.root g j)
  adds = ntt_add 7 B.root (omega arith) root (inverse_of_128 B) unit

  scales : (c : ℕ) (f : ℕ → ℕ) (j : ℕ) → j < 256 → Same (neg B) (ntt 7 (neg B) B.root (λ j. c * f j) j) (c * ntt 7 (neg B) B.root f j)
  unfolding ntt
  scales c f j h = layers_scale 7 B.root (omega arith) c (λ j. c * f j) f (λ j k. same_refl) 7 (omega arith) j h

  join_plus : (f g : List ℕ) → sum_of B (transform_of B f) (transform_of B g) ≡ transform_of B (sum_of B f g)
  unfolding sum_of transform_of
  join_plus f g =
      listed_cong _ _ (λ j h.
      same_add (listed_same (ntt 7 (neg B) B.root (coefficient f)) j h) (listed_same (ntt 7 (neg B) B.root (coefficient g)) j h)
      ⨾ same_sym (adds (coefficient f) (coefficient g) j h)
      ⨾ same_sym (same_transform (coefficient (listed (neg B) (λ j. coefficient f j + coefficient g j))) (λ j. coefficient f j + coefficient g j)
      (listed_same (λ j. coefficient f j + coefficient g j)) j h))

  join_minus : (f g : List ℕ) → difference_of B (transform_of B f) (transform_of B g) ≡ transform_of B (difference_of B f g)
  unfolding difference_of transform_of
  join_minus f g =
      let n = neg B in
      listed_cong _ _ (λ j h.
      same_add (listed_same (ntt 7 (neg B) B.root (coefficient f)) j h)
      (same_mul_left n (listed_same (ntt 7 (neg B) B.root (coefficient g)) j h) ⨾ same_sym (scales n (coefficient g) j h))
      ⨾ same_sym (adds (coefficient f) (λ j. neg B * coefficient g j) j h)
      ⨾ same_sym (same_transform (coefficient (listed (neg B) (λ j. coefficient f j + neg B * coefficient g j))) (λ j. coefficient f j + neg B * coefficient g j)
      (listed_same (λ j. coefficient f j + neg B * coefficient g j)) j h))

  join_times : (f g : List ℕ) → Good B f → Good B g → slot_product_of B (transform_of B f) (transform_of B g) ≡ transform_of B (product_of B f g)
  unfolding slot_product_of transform_of product_of
  join_times f g gf gg =
      laws.list_product _ _ (listed_polynomial (neg B) _) (listed_polynomial (neg B) _)
      ∙ ap₂ (λ (x y : List ℕ). transform_of B (product_of B x y)) (laws.list_back f gf) (laws.list_back g gg)

  pub joined : (o : Operation) (F : Form) (f g : List ℕ) → joins o F ≡ true → Good B f → Good B g → combined B o (in_form B F f) (in_form B F g) ≡ in_form B F (result B o f g)
  joined plus Empty f g t gf gg = absurd (false≢true t)
  joined plus Natural f g t gf gg = refl
  joined plus Transformed f g t gf gg = join_plus f g
  joined plus (Rising s) f g t gf gg = absurd (false≢true t)
  joined plus (Falling s) f g t gf gg = absurd (false≢true t)
  joined minus Empty f g t gf gg = absurd (false≢true t)
  joined minus Natural f g t gf gg = refl
  joined minus Transformed f g t gf gg = join_minus f g
  joined minus (Rising s) f g t gf gg = absurd (false≢true t)
  joined minus (Falling s) f g t gf gg = absurd (false≢true t)
  joined times Empty f g t gf gg = absurd (false≢true t)
  joined times Natural f g t gf gg = absurd (false≢true t)
  joined times Transformed f g t gf gg = join_times f g gf gg
  joined times (Rising s) f g t gf gg = absurd (false≢true t)
  joined times (Falling s) f g t gf gg = absurd (false≢true t)

  slot_product_comm : (x y : List ℕ) → slot_product_of B x y ≡ slot_product_of B y x
  unfolding slot_product_of
  slot_product_comm x y = listed_cong _ _ (λ j h. same_of (base_comm B.root (coefficient x) (coefficient y) j))

  pub forward_back : (u : List ℕ) → Good B u → transform_of B (inverse_of B u) ≡ u
  unfolding transform_of inverse_of
  forward_back u g = laws.list_forward u g

  -- a number below the modulus that is not 0 can be cancelled
  module _ (cancels : (a u v : ℕ) → 0 < a → a < B.modulus → Same (neg B) (a * u) (a * v) → Same (neg B) u v) where
    -- J has an inverse, and a has one
    product_injective : (a : ℕ) → 0 < a → a < B.modulus → (f g : List ℕ) → Good B f → Good B g → product_of B f (witness B a 0) ≡ product_of B g (witness B a 0) → f ≡ g
    unfolding product_of
    product_injective a low high f g gf gg e =
        let n = neg B in
        let half = inverse_of_128 B * 64 in
        let two : Same n (half * 2) 1 = same_of {y = inverse_of_128 B * 2 ^ 7} (omega arith) ⨾ unit in
        agree B f g gf gg (by_ones n half two (coefficient f) (coefficient g) (λ k l.
        cancels a (product n (coefficient f) ones k) (product n (coefficient g) ones k) low high
        (same_sym (by_witness a f k l) ⨾ from_listed (product n (coefficient f) (coefficient (witness B a 0))) (product n (coefficient g) (coefficient (witness B a 0))) e k l ⨾ by_witness a g k l)))
      where
        by_witness : (a : ℕ) (f : List ℕ) (k : ℕ) → k < 256 → Same (neg B) (product (neg B) (coefficient f) (coefficient (witness B a 0)) k) (a * product (neg B) (coefficient f) ones k)
        by_witness a f k l =
            product_same 256 (neg B) (coefficient f) (coefficient (witness B a 0)) (λ j. 1 * coefficient f j) (λ j. a * ones j) (λ j h. same_of (omega arith)) (witness_ones B a) k l
            ⨾ same_of (product_scale (neg B) 1 a (coefficient f) ones k)
            ⨾ same_of (omega arith)

    transform_injective : (f g : List ℕ) → Good B f → Good B g → transform_of B f ≡ transform_of B g → f ≡ g
    unfolding transform_of
    transform_injective f g gf gg e =
        sym (laws.list_back f gf) ∙ ap (inverse_transform 7 (neg B) B.root (inverse_of_128 B)) e ∙ laws.list_back g gg

    slot_product_injective : (x y z : List ℕ) → Good B x → Good B y → Regular B times z → slot_product_of B x z ≡ slot_product_of B y z → x ≡ y
    slot_product_injective x y z gx gy r e =
        let W = witness B r.0 0 in
        let x' = inverse_of B x in
        let y' = inverse_of B y in
        let to : (u : List ℕ) → Good B u → transform_of B (product_of B (inverse_of B u) W) ≡ slot_product_of B u z =
        λ u gu. sym (join_times (inverse_of B u) W (inverse_good B u) (witness_good B r.0 0)) ∙ ap₂ (slot_product_of B) (forward_back u gu) (sym r.3) in
        let same = transform_injective (product_of B x' W) (product_of B y' W) (result_good B times x' W) (result_good B times y' W) (to x gx ∙ e ∙ sym (to y gy)) in
        sym (forward_back x gx) ∙ ap (transform_of B) (product_injective r.0 r.1 r.2 x' y' (inverse_good B x) (inverse_good B y) same) ∙ forward_back y gy

    pub left_injective : (o : Operation) (x y z : List ℕ) → Good B x → Good B y → Regular B o z → combined B o x z ≡ combined B o y z → x ≡ y
    unfolding sum_of difference_of
    left_injective plus x y z gx gy r e =
        agree B x y gx gy (λ j h. cancel_add (coefficient x j) (coefficient y j) (coefficient z j) (from_listed (λ j. coefficient x j + coefficient z j) (λ j. coefficient y j + coefficient z j) e j h))
    left_injective minus x y z gx gy r e =
        agree B x y gx gy (λ j h. cancel_add (coefficient x j) (coefficient y j) (neg B * coefficient z j)
        (from_listed (λ j. coefficient x j + neg B * coefficient z j) (λ j. coefficient y j + neg B * coefficient z j) e j h))
    left_injective times x y z gx gy r e = slot_product_injective x y z gx gy r e

    pub right_injective : (o : Operation) (x y z : List ℕ) → Good B x → Good B y → Regular B o z → combined B o z x ≡ combined B o z y → x ≡ y
    unfolding sum_of difference_of
    right_injective plus x y z gx gy r e =
        agree B x y gx gy (λ j h. cancel_add (coefficient x j) (coefficient y j) (coefficient z j)
        (same_of (omega arith) ⨾ from_listed (λ j. coefficient z j + coefficient x j) (λ j. coefficient z j + coefficient y j) e j h ⨾ same_of (omega arith)))
    right_injective minus x y z gx gy r e =
        agree B x y gx gy (λ j h. cancel_minus (coefficient x j) (coefficient y j) (coefficient z j)
        (from_listed (λ j. coefficient z j + neg B * coefficient x j) (λ j. coefficient z j + neg B * coefficient y j) e j h))
    right_injective times x y z gx gy r e = slot_product_injective x y z gx gy r (slot_product_comm x z ∙ e ∙ slot_product_comm z y)
