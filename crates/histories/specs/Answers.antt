-- What the results of the code answer.
use Rattle.std.specs.Prelude.{ℕ, List, Ok, Err, Result}
use Rattle.rings.specs.declared.refusal.Refusal.{Refusal}
use Rattle.rings.specs.Refusals.{number_of, place_of}
pub use Rattle.rings.specs.Refusals.{complaint}
use Rattle.histories.specs.declared.register.Form.{Form}
use Rattle.histories.specs.Serves.{Answer, done, given, refused}

-- the answer of a call that hands out nothing
abbrev pub told : {X : Type 0} → Result X Refusal → Answer
told (Ok x) = done
told (Err why) = refused (number_of why) (place_of why)

-- the answer of a release, with the numbers that it wrote
abbrev pub handed : Result Form Refusal → List ℕ → Answer
handed (Ok F) xs = given xs F
handed (Err why) xs = refused (number_of why) (place_of why)
