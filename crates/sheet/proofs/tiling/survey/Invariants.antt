use Rattle.std.proofs.Common.{◌≡◌, ◌-◌, ◌<◌, length}
use Rattle.sheet.specs.Tiles.{Reached}
use Rattle.sheet.proofs.tiling.survey.Given as goal

abbrev pub invariant-loop-step : goal.invariant-loop-step
invariant-loop-step l = (l.reader.sheet.now ≡ l.sheet) × Reached l.sheet l.fields l.reader.at × (0 < length l.sheet)

abbrev pub decreases-loop-step : goal.decreases-loop-step
decreases-loop-step l = length l.sheet - l.reader.at
