-- Sums, differences and products, on the three registers that they name.
use Rattle.std.proofs.Common.{◌≡◌, ℕ, ◌+◌, ◌-◌, ◌*◌, ◌%◌, ◌<◌, ◌≤◌, true, ◌⊎◌, List, map, sym, refl, ap, ◌∙◌, subst, ap₂, ⊎_elim, mod-lt, arith}
use native.Mathlib.Nat.{zero-mod, mod_self}
use Rattle.std.proofs.lemmas.Bool.{false≢true}
use Rattle.guarded.specs.Model.{Guarded, Lawful}
use Rattle.histories.specs.declared.register.Form.{Form}
use Rattle.histories.specs.declared.register.Form.TheVariants.{Transformed}
use Rattle.histories.specs.declared.register.Register.{Register}
use Rattle.histories.specs.Operations.{Base, Good, remainders, witness}
use Rattle.histories.specs.Forms.{occupied, whole, in_form}
use Rattle.histories.specs.Calls.{coefficients, checks, meanings, plains, residues, Operation, plus, minus, times, joins}
use Rattle.histories.specs.Serves.{Meaning, joined, level_of, first_number, second_number, combined}
use Rattle.histories.specs.Ledger.{Held, nothing, holds, Reach, unreached, reached, held_of, result, either}
use Rattle.histories.proofs.Asked.{expected, owed, Transforms, Regular, Simple, Algebra}
use Rattle.histories.proofs.Basics.{every, flaw_none}
use Rattle.histories.proofs.Forms.{joins_whole, times_transformed}
use Rattle.histories.proofs.Rulings.{Factors}
use Rattle.histories.proofs.Local.{Layered, Common, Kept, Tainted, Bond, Local, taint_carry}
use Rattle.histories.proofs.Struck.{no_hit}
use Rattle.histories.proofs.Turning.{means_good, residues_good, owed_good}

joined_expected : (B : Base) → Transforms B → (o : Operation) (F E : Form) (e f g : List ℕ) → joins o F ≡ true → F ≡ E → Good B f → Good B g →
    combined B o (expected B F e f) (expected B E e g) ≡ expected B F e (result B o f g)
joined_expected B T o F E e f g j same gf gg =
    let i = joins_whole o F j in
    subst (λ D. combined B o (expected B F e f) (expected B D e g) ≡ expected B F e (result B o f g)) same
    (ap₂ (combined B o) (T.expected_whole F e f i gf) (T.expected_whole F e g i gg) ∙ T.joined o F f g j gf gg ∙ sym (T.expected_whole F e (result B o f g) i (T.result_good o f g)))

number_below : (p : ℕ) (o : Operation) (a a' : ℕ) → 0 < p → first_number p o a a' < p
number_below p plus a a' h = mod-lt (a + a') h
number_below p minus a a' h = mod-lt (a + (p - a')) h
number_below p times a a' h = h

second_below : (p : ℕ) (o : Operation) (a b a' b' : ℕ) → 0 < p → second_number p o a b a' b' < p
second_below p plus a b a' b' h = mod-lt (b + b') h
second_below p minus a b a' b' h = mod-lt (b + (p - b')) h
second_below p times a b a' b' h = mod-lt (a * a') h

number_single : (p : ℕ) (o : Operation) (x y : Register) → (x.level ≤ 1 → x.b ≡ 0) → (y.level ≤ 1 → y.b ≡ 0) →
    level_of o x.level y.level ≤ 1 → second_number p o x.a x.b y.a y.b ≡ 0
number_single p plus x y hx hy h = rw (hx (omega arith), hy (omega arith)) (zero-mod p)
number_single p minus x y hx hy h =
    rw (hx (omega arith), hy (omega arith)) (let k : 0 + (p - 0) ≡ p = omega arith in ap (λ (z : ℕ). z % p) k ∙ mod_self p)
number_single p times x y hx hy h = absurd (omega arith)

simple : (o : Operation) (x y : Register) → Factors o x y → (x.level ≤ 1 → x.b ≡ 0) → (y.level ≤ 1 → y.b ≡ 0) → Simple o x.b y.b
simple plus x y k hx hy = tt
simple minus x y k hx hy = tt
simple times x y k hx hy = (hx k.0, hy k.1)

-- of one factor of a product
abbrev SingleFactor : Operation → Register → Type 0
SingleFactor plus x = Unit {0}
SingleFactor minus x = Unit {0}
SingleFactor times x = (x.b ≡ 0) × (0 < x.a)

left_factor : (o : Operation) (x y : Register) → Factors o x y → (x.level ≤ 1 → x.b ≡ 0) → SingleFactor o x
left_factor plus x y k h = tt
left_factor minus x y k h = tt
left_factor times x y k h = (h k.0, k.2)

right_factor : (o : Operation) (x y : Register) → Factors o x y → (y.level ≤ 1 → y.b ≡ 0) → SingleFactor o y
right_factor plus x y k h = tt
right_factor minus x y k h = tt
right_factor times x y k h = (h k.1, k.3)

module _ {W : Type 0} (G : Guarded W) (Y : Lawful G) (A : Algebra G) where
  regular : (o : Operation) (F : Form) (e : List ℕ) (x : Register) (words : List W) → joins o F ≡ true → F ≡ x.form → x.a < G.p → SingleFactor o x →
      residues G words ≡ owed G e x → Regular (checks G) o (residues G words)
  regular plus F e x words j s b k h = tt
  regular minus F e x words j s b k h = tt
  regular times F e x words j s b k h =
      let f : x.form ≡ Transformed = sym s ∙ times_transformed F j in (
        x.a,
        k.1,
        b,
        h ∙ A.on_checks.expected_whole x.form e (witness (checks G) x.a x.b) (ap whole f) (A.checking.witness_good x.a x.b)
            ∙ ap₂ (λ (E : Form) (n : ℕ). in_form (checks G) E (witness (checks G) x.a n)) f k.0,
      )

  module _ (o : Operation) (a b d : ℕ) (e : List ℕ) (x y : Register) (wa wb wd : List W) (ha hb : Held) (in_d : d < 8) (in_a : a < 8) (in_b : b < 8)
      (fa : occupied x.form ≡ true) (fb : occupied y.form ≡ true) (j : joins o x.form ≡ true) (same : x.form ≡ y.form) (factored : Factors o x y)
      (ea : every G.element wa ≡ true) (eb : every G.element wb ≡ true)
      (res : Meaning G (combined (meanings G) o (map G.meaning wa) (map G.meaning wb)) wd)
      (ca : Common G a ha x wa) (cb : Common G b hb y wb) where
    plain_is : plains G wd ≡ combined coefficients o (plains G wa) (plains G wb)
    plain_is = ap (remainders coefficients) res.means ∙ A.to_coefficients.results_reduce o (map G.meaning wa) (map G.meaning wb) (means_good G Y A wa (ca.size in_a) ea) (means_good G Y A wb (cb.size in_b) eb)

    check_is : residues G wd ≡ combined (checks G) o (residues G wa) (residues G wb)
    check_is = ap (remainders (checks G)) res.means ∙ A.to_checks.results_reduce o (map G.meaning wa) (map G.meaning wb) (means_good G Y A wa (ca.size in_a) ea) (means_good G Y A wb (cb.size in_b) eb)

    due_is : combined (checks G) o (owed G e x) (owed G e y) ≡ owed G e (joined G.p o x y)
    due_is =
        joined_expected (checks G) A.on_checks o x.form y.form e (witness (checks G) x.a x.b) (witness (checks G) y.a y.b) j same
        (A.checking.witness_good x.a x.b) (A.checking.witness_good y.a y.b)
        ∙ ap (expected (checks G) x.form e) (A.checking.witnesses o x.a x.b y.a y.b ca.below ca.below_b cb.below cb.below_b (simple o x y factored ca.single cb.single))

    join_kept : (f g : List ℕ) → Good coefficients f → Good coefficients g → Kept G f e x wa → Kept G g e y wb → Kept G (result coefficients o f g) e (joined G.p o x y) wd
    join_kept f g gf gg ka kb =
        record {
          elements = flaw_none G.element wd res.elements;
          plain = plain_is ∙ ap₂ (combined coefficients o) ka.plain kb.plain ∙ joined_expected coefficients A.on_coefficients o x.form y.form e f g j same gf gg;
          check = check_is ∙ ap₂ (combined (checks G) o) ka.check kb.check ∙ due_is;
        }

    -- the first operand is reached
    left_taint : (v v' : List W) → residues G wb ≡ owed G e y → Tainted G v v' e x wa → Tainted G v v' e (joined G.p o x y) wd
    left_taint v v' kb =
        taint_carry G v v' e e x (joined G.p o x y) wa wd (λ u. combined (checks G) o u (residues G wb)) ea (flaw_none G.element wd res.elements) check_is
        (ap (λ u. combined (checks G) o (owed G e x) u) kb ∙ due_is)
        (A.checking.left_injective o (residues G wa) (owed G e x) (residues G wb)
        (residues_good G Y A wa (ca.size in_a)) (owed_good G Y A e x) (residues_good G Y A wb (cb.size in_b))
        (regular o x.form e y wb j same cb.below (right_factor o x y factored cb.single) kb))

    -- the second is
    right_taint : (v v' : List W) → residues G wa ≡ owed G e x → Tainted G v v' e y wb → Tainted G v v' e (joined G.p o x y) wd
    right_taint v v' ka =
        taint_carry G v v' e e y (joined G.p o x y) wb wd (λ u. combined (checks G) o (residues G wa) u) eb (flaw_none G.element wd res.elements) check_is
        (ap (λ u. combined (checks G) o u (owed G e y)) ka ∙ due_is)
        (A.checking.right_injective o (residues G wb) (owed G e y) (residues G wa)
        (residues_good G Y A wb (cb.size in_b)) (owed_good G Y A e y) (residues_good G Y A wa (ca.size in_a))
        (regular o x.form e x wa j refl ca.below (left_factor o x y factored ca.single) ka))

    join_bond : (S : Type 0) (ka kb : Held) (Ra Rb : Reach W) → (S → (Ra ≡ unreached) ⊎ (Rb ≡ unreached)) → Layered ka x.form → Layered kb y.form →
        Bond G S ka Ra e x wa → Bond G S kb Rb e y wb → Bond G S (held_of o ka kb) (either Ra Rb) e (joined G.p o x y) wd
    join_bond S nothing kb Ra Rb apart la lb ba bb = absurd (false≢true (sym (ap occupied la) ∙ fa))
    join_bond S (holds f l) nothing Ra Rb apart la lb ba bb = absurd (false≢true (sym (ap occupied lb) ∙ fb))
    join_bond S (holds f l) (holds g m) unreached unreached apart la lb ba bb = join_kept f g la.2 lb.2 ba bb
    join_bond S (holds f l) (holds g m) unreached (reached v v') apart la lb ba bb = λ s. right_taint v v' ba.check (bb s)
    join_bond S (holds f l) (holds g m) (reached v v') unreached apart la lb ba bb = λ s. left_taint v v' bb.check (ba s)
    join_bond S (holds f l) (holds g m) (reached v v') (reached u u') apart la lb ba bb = λ s. absurd (⊎_elim no_hit no_hit (apart s))

    join_layered : (ka kb : Held) → Layered ka x.form → Layered kb y.form → Layered (held_of o ka kb) x.form
    join_layered nothing kb la lb = la
    join_layered (holds f l) nothing la lb = absurd (false≢true (sym (ap occupied lb) ∙ fb))
    join_layered (holds f l) (holds g m) la lb = (la.0, la.1, A.on_coefficients.result_good o f g)

    pub join_local : (S : Type 0) (Ra Rb : Reach W) → (S → (Ra ≡ unreached) ⊎ (Rb ≡ unreached)) → Bond G S ha Ra e x wa → Bond G S hb Rb e y wb →
        Local G S d e (held_of o ha hb) (either Ra Rb) (joined G.p o x y) wd
    join_local S Ra Rb apart ba bb =
        record {
          common = record {
            size = λ _. res.size;
            inside = λ _. in_d;
            fine = ca.fine;
            layered = join_layered ha hb ca.layered cb.layered;
            below = number_below G.p o x.a y.a A.on_checks.positive;
            below_b = second_below G.p o x.a x.b y.a y.b A.on_checks.positive;
            single = number_single G.p o x y ca.single cb.single;
          };
          bond = join_bond S ha hb Ra Rb apart ca.layered cb.layered ba bb;
        }
