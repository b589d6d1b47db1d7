-- The theorems, joined.
use Rattle.std.proofs.Common.{ℕ, suc, ◌*◌, ◌^◌, sym, refl, arith}
use Rattle.algebra.specs.Congruence.{Same}
use Rattle.algebra.specs.Sum.{sum}
use Rattle.algebra.specs.Layers.{ntt}
use Rattle.algebra.specs.Product.{turned, product_mod}
use Rattle.algebra.specs.Theorems.{Transforms, OddModuli, MlKem, MlDsa, MaskLists, Products, Ones}
use Rattle.algebra.proofs.Modular.{same_of, same_pow, ◌⨾◌}
use Rattle.algebra.proofs.Powers.{mul_pow, one_pow}
use Rattle.algebra.proofs.Inverse.{inv_ntt_ntt, inverse_after_layers, layers_after_inverse}
use Rattle.algebra.proofs.Slots.{ntt_slots}
use Rattle.algebra.proofs.Product.{slot_product}
use Rattle.algebra.proofs.Ring.{product_comm, product_assoc, product_add}
use Rattle.algebra.proofs.Main.{ntt_inv_ntt, ntt_product, product_by_ntt}
use Rattle.algebra.proofs.Ones.{ones_square, ones_times_first, ones_times_next, by_ones, half_of}
use Rattle.algebra.proofs.MaskLists.{mask_none, mask_end, carries_forward, carries_inverse, forward_step_listed, inverse_step_listed, forward_run, inverse_run, forward_layer_is, inverse_layer_is}
use Rattle.algebra.proofs.Lists.{list_back, list_forward, list_product}

pub transforms : Transforms
unfolding ntt
transforms L neg w i top root unit =
    record {
      inverse_after = inv_ntt_ntt L w top root i unit;
      forward_after = ntt_inv_ntt L w top root i unit;
      inverse_partly = inverse_after_layers L w top root;
      forward_partly = layers_after_inverse L w top root;
      slots = ntt_slots L w top root;
      slot_products = slot_product L w top root;
      transform_products = ntt_product L w top root i unit;
      convolution = product_by_ntt L w top root i unit;
      forward_step = forward_step_listed L w top root;
      inverse_step = inverse_step_listed L w top root i;
      masked_forward = forward_run L w top root;
      masked_inverse = λ some lists h. inverse_run L w top root lists h i some;
      forward_layers = λ s l. forward_layer_is L neg w i s;
      inverse_layers = λ s l. inverse_layer_is L neg w i s;
      list_back = list_back L w top root i unit;
      list_forward = list_forward L w top root i unit;
      list_product = λ xs ys P Q. list_product L w top root i unit xs ys;
    }

inverse_of_power : {neg : ℕ} (L half : ℕ) → Same neg (half * 2) 1 → Same neg (half ^ L * 2 ^ L) 1
inverse_of_power L half two = same_of (sym (mul_pow half 2 L)) ⨾ same_pow two L ⨾ same_of (one_pow L)

pub odd_moduli : OddModuli
odd_moduli L h w top root = transforms L (2 * h) w (suc h ^ L) top root (inverse_of_power L (suc h) (half_of (2 * h) h refl))

pub ml_kem : MlKem
ml_kem = transforms 7 3328 17 3303 (omega arith) (record { same = refl }) (record { same = refl })

pub ml_dsa : MlDsa
ml_dsa = transforms 8 8380416 1753 8347681 (omega arith) (record { same = refl }) (record { same = refl })

pub mask_lists : MaskLists
mask_lists L top =
    record {
      first = mask_none L;
      last = mask_end L;
      after_forward = carries_forward L;
      after_inverse = carries_inverse L;
    }

pub products : Products
unfolding product_mod turned sum
products =
    record {
      two_first = λ c a b. omega arith;
      two_second = λ c a b. omega arith;
      one = λ c a b. omega arith;
      commutes = product_comm;
      associates = product_assoc;
      distributes = product_add;
    }

pub all_ones : Ones
all_ones neg half two =
    record {
      square = ones_square neg;
      one_less_first = ones_times_first neg;
      one_less_next = ones_times_next neg;
      cancel = by_ones neg half two;
    }
