-- What a call has whose checks have passed.
use Rattle.std.proofs.Common.{◌≡◌, ℕ, List, length}
use mathlib.Core.Option.{none}
use Rattle.std.proofs.lemmas.Bool.{eqb-true}
use Rattle.rings.specs.Refusals.{accepted, ruling, flaw, below}
use Rattle.rings.proofs.Flaws.{passes}
use Rattle.transform.specs.Checks.{transform_checks, guarded_checks, product_checks}

-- f and out have 256 numbers, and those of f are below 3329
pub record Passed (f out : List ℕ) : Type 0 where
  pub size : length f ≡ 256
  pub room : length out ≡ 256
  pub range : flaw (below 3329) f ≡ none

pub transform_passed : (f out : List ℕ) → accepted ≡ ruling (transform_checks f out) → Passed f out
transform_passed f out h =
    let ok = passes (transform_checks f out) h in
    record { size = eqb-true (length f) 256 ok.0; room = eqb-true (length out) 256 ok.1.0; range = ok.1.1.0 }

pub guarded_passed : (f : List ℕ) (words : ℕ) (out : List ℕ) → accepted ≡ ruling (guarded_checks f words out) → Passed f out × (words ≡ 256)
guarded_passed f words out h =
    let ok = passes (guarded_checks f words out) h in
    (record { size = eqb-true (length f) 256 ok.0; room = eqb-true (length out) 256 ok.1.1.0; range = ok.1.1.1.0 }, eqb-true words 256 ok.1.0)

pub product_passed : (f g out : List ℕ) → accepted ≡ ruling (product_checks f g out) → Passed f out × Passed g out
product_passed f g out h =
    let ok = passes (product_checks f g out) h in
    let room : length out ≡ 256 = eqb-true (length out) 256 ok.1.1.0 in (
      record { size = eqb-true (length f) 256 ok.0; room = room; range = ok.1.1.1.0 },
      record { size = eqb-true (length g) 256 ok.1.0; room = room; range = ok.1.1.1.1.0 },
    )
