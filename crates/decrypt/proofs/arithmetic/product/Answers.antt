use Rattle.std.proofs.Common.{sym, ◌∙◌, subst}
use Rattle.algebra.specs.Polynomials.{Polynomial}
use Rattle.algebra.proofs.Lists.{listed_polynomial}
use Rattle.decrypt.proofs.Differences.{product_by}
use Rattle.decrypt.proofs.Improper.{no_value, value, transforms, multiplies, transformed_of, factor_of}
use Rattle.decrypt.proofs.arithmetic.product.Goals as goal

pub returns-in_err-ok : goal.returns-in_err-ok
returns-in_err-ok c =
    rw c.from_residual.ensures
    (λ P. no_value c.forward.result (sym c.ok.ensures.value ∙ c.in_err-ok.was) (c.forward.ensures.answers ∙ transforms c.args.u.now P.0))

pub returns-in_err-ok-2 : goal.returns-in_err-ok-2
returns-in_err-ok-2 c =
    let A = value _ c.forward.result _ (sym c.ok.ensures.value ∙ c.in_ok-ok.was) c.forward.ensures.writes in
    let T = subst (Polynomial 3328) (sym A.1.is) (listed_polynomial 3328 _) in
    rw c.from_residual-in_err-ok-2.ensures
    (λ P. no_value c.multiply.result (sym c.ok-2.ensures.value ∙ c.in_err-ok-2.was) (c.multiply.ensures.answers ∙ multiplies c.forward.new.out c.args.s.now T P.1))

pub returns-in_err-ok-3 : goal.returns-in_err-ok-3
returns-in_err-ok-3 c =
    let B = value _ c.multiply.result _ (sym c.ok-2.ensures.value ∙ c.in_ok-ok-2.was) c.multiply.ensures.writes in
    let M = subst (Polynomial 3328) (sym B.1.is) (listed_polynomial 3328 _) in
    rw c.from_residual-in_err-ok-3.ensures
    (λ P. no_value c.inverse.result (sym c.ok-3.ensures.value ∙ c.in_err-ok-3.was) (c.inverse.ensures.answers ∙ transforms c.multiply.new.out M))

pub returns : goal.returns
returns c =
    let A = value _ c.forward.result _ (sym c.ok.ensures.value ∙ c.in_ok-ok.was) c.forward.ensures.writes in
    let B = value _ c.multiply.result _ (sym c.ok-2.ensures.value ∙ c.in_ok-ok-2.was) c.multiply.ensures.writes in
    let C = value _ c.inverse.result _ (sym c.ok-3.ensures.value ∙ c.in_ok-ok-3.was) c.inverse.ensures.writes in (
      (transformed_of c.args.u.now (A.0 ∙ c.forward.ensures.answers), factor_of c.forward.new.out c.args.s.now (B.0 ∙ c.multiply.ensures.answers)),
      product_by c.args.u.now c.args.s.now _ _ _ A.1 B.1 C.1,
    )
