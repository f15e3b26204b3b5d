-- The two products fit in 64 bits: the paths that may be asked for are few, and so are the levels and lines of a circuit.
use Rattle.std.proofs.Common.{ℕ, ◌+◌, ◌*◌, ◌<◌, ◌≤◌, arith}
use Rattle.std.proofs.lemmas.Nat.{mul-le}
use Rattle.pd_base.specs.declared.limits.TheConstants.{MOST_PATHS}
use Rattle.netlist.specs.declared.limits.TheConstants.{MOST_LEVELS, MOST_LINES}

-- the product for the texts of the paths, where the length of a name has 32 bits
pub path_text_fits : (paths levels name : ℕ) → paths ≤ MOST_PATHS → levels ≤ MOST_LEVELS → name < 4294967296
    → paths * (levels + 1) * (name + 6) < 18446744073709551616
path_text_fits paths levels name few low short =
    let bound = mul-le (paths * (levels + 1)) (name + 6) (MOST_PATHS * (MOST_LEVELS + 1)) (4294967302)
    (mul-le paths (levels + 1) MOST_PATHS (MOST_LEVELS + 1) few (omega arith)) (omega arith) in
    omega arith

-- the product for the texts of the tests
pub test_text_fits : (paths sources observed : ℕ) → paths ≤ MOST_PATHS → sources ≤ MOST_LINES → observed ≤ MOST_LINES
    → paths * (sources + observed) < 18446744073709551616
test_text_fits paths sources observed few first second =
    let bound = mul-le paths (sources + observed) MOST_PATHS (MOST_LINES + MOST_LINES) few (omega arith) in
    omega arith
