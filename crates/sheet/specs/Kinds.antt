-- The kinds of fields: their letters, where they stand and how long their contents are.
use Rattle.std.specs.Prelude.{ℕ, Bool, true, false, cond, Some, None, Option, ◌==◌, nat_lt}
use Rattle.sheet.specs.declared.kind.Kind.{Kind}
use Rattle.sheet.specs.declared.kind.Kind.TheVariants.{Redundant, Pair, Load, LoadHat, Forward, Inverse, Add, Subtract, Multiply, Refresh, Clear, Release, Strike}

-- the letters P Q L H F I A S M N C R X
abbrev pub letter : Kind → ℕ
letter Redundant = 80
letter Pair = 81
letter Load = 76
letter LoadHat = 72
letter Forward = 70
letter Inverse = 73
letter Add = 65
letter Subtract = 83
letter Multiply = 77
letter Refresh = 78
letter Clear = 67
letter Release = 82
letter Strike = 88

-- the kind that a letter names
abbrev pub kind_of : ℕ → Option Kind
kind_of tag =
    cond (tag == 80) (Some Redundant)
    (cond (tag == 81) (Some Pair)
    (cond (tag == 76) (Some Load)
    (cond (tag == 72) (Some LoadHat)
    (cond (tag == 70) (Some Forward)
    (cond (tag == 73) (Some Inverse)
    (cond (tag == 65) (Some Add)
    (cond (tag == 83) (Some Subtract)
    (cond (tag == 77) (Some Multiply)
    (cond (tag == 78) (Some Refresh)
    (cond (tag == 67) (Some Clear)
    (cond (tag == 82) (Some Release)
    (cond (tag == 88) (Some Strike) None))))))))))))

-- the kinds that stand first, and only there
abbrev pub opens : Kind → Bool
opens Redundant = true
opens Pair = true
opens Load = false
opens LoadHat = false
opens Forward = false
opens Inverse = false
opens Add = false
opens Subtract = false
opens Multiply = false
opens Refresh = false
opens Clear = false
opens Release = false
opens Strike = false

-- whether a kind may stand at an offset
abbrev pub placed : Kind → ℕ → Bool
placed k at = cond (opens k) (at == 0) (nat_lt 0 at)

-- the least and the greatest length of a content
abbrev pub least : Kind → ℕ
least Redundant = 3
least Pair = 2
least Load = 771
least LoadHat = 771
least Forward = 1
least Inverse = 1
least Add = 3
least Subtract = 3
least Multiply = 3
least Refresh = 257
least Clear = 1
least Release = 1
least Strike = 6

abbrev pub most : Kind → ℕ
most Redundant = 3
most Pair = 2
most Load = 771
most LoadHat = 771
most Forward = 129
most Inverse = 129
most Add = 3
most Subtract = 3
most Multiply = 3
most Refresh = 257
most Clear = 1
most Release = 1
most Strike = 6
