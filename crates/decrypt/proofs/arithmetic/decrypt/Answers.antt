use Rattle.std.proofs.Common.{◌<◌, length, sym, subst, rules, arith}
use Rattle.std.proofs.lemmas.List.{length_push}
use Rattle.std.specs.Iterator.Adapters.{zip_first, zip_second}
use Rattle.algebra.specs.Polynomials.{Polynomial}
use Rattle.algebra.proofs.Lists.{listed_polynomial}
use Rattle.decrypt.proofs.Differences.{decrypted_none, rows_none}
use Rattle.decryption.proofs.Chunks.{comes}
use Rattle.decrypt.proofs.Walks.{walked_more}
use Rattle.decrypt.proofs.arithmetic.decrypt.Goals as goal

pub loop-u_i-init : goal.loop-u_i-init
loop-u_i-init c =
    let E = c.in_ok-w.ensures in (
      (search rules, search rules),
      (
        tt,
        record {
          u_left = record { wide = omega arith; each = search rules; rest = search rules; room = omega arith };
          s_left = record { wide = omega arith; each = search rules; rest = search rules; room = omega arith };
          decrypted = decrypted_none _ _ _ _ (subst (Polynomial 3328) (sym E.1) E.0) E.1;
          rows = rows_none _ _;
        },
      ),
    )

pub returns-in_err-product : goal.returns-in_err-product
returns-in_err-product c =
    let k = length c.loop-u_i.yielded in
    let W = c.loop-u_i.invariant.1.1 in
    let a = comes 256 k c.args.u.now c.in-Some.u_i (zip_first c.loop-u_i.u_i-iterator) (zip_first c.next.new.self) W.u_left c.in-Some.ensures.steps.0 in
    let b = comes 256 k c.args.s.now c.in-Some.s_i (zip_second c.loop-u_i.u_i-iterator) (zip_second c.next.new.self) W.s_left c.in-Some.ensures.steps.1 in
    rw c.from_residual-in_err-product.ensures
    (λ P.
    let room : k < c.args.rank = omega (arith, a.left.room, P.u_size) in
    c.in_err-product.ensures (subst (Polynomial 3328) (sym a.is) (P.rows.u_row k room), subst (Polynomial 3328) (sym b.is) (P.rows.s_row k room)))

pub subtract-w-requires : goal.subtract-w-requires
subtract-w-requires c = (c.loop-u_i.invariant.1.1.decrypted.reduced, subst (Polynomial 3328) (sym c.in_ok-product.ensures.1) (listed_polynomial 3328 _))

pub loop-u_i-preserved : goal.loop-u_i-preserved
loop-u_i-preserved c =
    let k = length c.loop-u_i.yielded in
    let W = c.loop-u_i.invariant.1.1 in
    let a = comes 256 k c.args.u.now c.in-Some.u_i (zip_first c.loop-u_i.u_i-iterator) (zip_first c.next.new.self) W.u_left c.in-Some.ensures.steps.0 in
    let b = comes 256 k c.args.s.now c.in-Some.s_i (zip_second c.loop-u_i.u_i-iterator) (zip_second c.next.new.self) W.s_left c.in-Some.ensures.steps.1 in
    let E = c.in_ok-product.ensures in
    let e = length_push c.loop-u_i.yielded (c.in-Some.u_i, c.in-Some.s_i) in (
      (omega (arith, a.left.each), omega (arith, b.left.each)),
      (tt, rw e (walked_more k _ _ _ _ _ _ (zip_first c.loop-u_i.u_i-iterator) (zip_second c.loop-u_i.u_i-iterator) (zip_first c.next.new.self) (zip_second c.next.new.self) c.in-Some.u_i c.in-Some.s_i W a b E.0 E.1 c.subtract-w.ensures.below c.subtract-w.ensures.restores)),
    )
