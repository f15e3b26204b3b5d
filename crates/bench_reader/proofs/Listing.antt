-- How far the tokens of a line are listed.
use Rattle.std.proofs.Common.{◌≡◌, ℕ, List, ◌++◌}
use Rattle.bench_reader.specs.Bytes.{has_bad_byte}
use Rattle.bench_reader.specs.Tokens.{Token, tokens_of}

-- these tokens are listed, and those of the rest are left
pub record IsListed (code : List ℕ) (listed : List Token) (rest : List ℕ) : Type 0 where
  pub tokens : tokens_of code ≡ listed ++ tokens_of rest
  pub bad_bytes : has_bad_byte code ≡ has_bad_byte rest
