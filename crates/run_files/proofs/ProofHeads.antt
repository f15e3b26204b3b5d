-- The head of a proof's line is read where what the proof claims is read, and behind it where it claims that.
use Rattle.std.proofs.Common.{◌≡◌, ◌∙◌, ℕ, List, Some, None, ap}
use Rattle.std.proofs.lemmas.Option.{none-some, same_Some}
use Rattle.text_pieces.specs.Reads.{Reads}
use Rattle.text_pieces.proofs.Spelled.{none_spelled, one_spelled}
use Rattle.run_files.specs.ProofsReading.{numbered_claim_words, prefix_words, proof_head_words, IsProofHead, IsProofPrefix}
use Rattle.run_files.specs.declared.proof_head.ProofClaim.{ProofClaim}
use Rattle.run_files.specs.declared.proof_head.ProofHead.{ProofHead}
use Rattle.run_files.specs.declared.proof_head.ProofPrefix.{ProofPrefix}

-- where a head claims what it claims
abbrev pub prefix_in : ProofHead → ProofPrefix
prefix_in head = record { dir = head.dir; path = head.path; steps = head.steps }

-- what it claims, and the words behind that
abbrev pub parts_in : ProofHead × List (List ℕ) → ProofClaim × List (List ℕ)
parts_in head = (record { spent = head.0.spent; kind = head.0.kind }, prefix_words (prefix_in head.0, head.1))

-- the head of a claim and a prefix
abbrev pub head_with : ProofClaim → ProofPrefix → ProofHead
head_with claim prefix = record { spent = claim.spent; kind = claim.kind; dir = prefix.dir; path = prefix.path; steps = prefix.steps }

module _ (number : ℕ) (words : List (List ℕ)) where
  pub no_claim : Reads (numbered_claim_words number) (λ read. Unit {0}) words None → Reads (proof_head_words number) IsProofHead words None
  no_claim claims =
      none_spelled (proof_head_words number) IsProofHead words
      (λ head lawful same. none-some (parts_in head) (claims.only (parts_in head) tt same))

  module _ (claim : ProofClaim) (left : List (List ℕ))
      (claims : Reads (numbered_claim_words number) (λ read. Unit {0}) words (Some (claim, left))) where
    parts_are : (head : ProofHead × List (List ℕ)) → words ≡ proof_head_words number head → (claim, left) ≡ parts_in head
    parts_are head same = same_Some _ _ (claims.only (parts_in head) tt same)

    pub no_prefix : Reads prefix_words IsProofPrefix left None → Reads (proof_head_words number) IsProofHead words None
    no_prefix prefixes =
        none_spelled (proof_head_words number) IsProofHead words
        (λ head lawful same.
        none-some (prefix_in head.0, head.1)
        (prefixes.only (prefix_in head.0, head.1) (record { path = lawful.path; steps = lawful.steps })
        (ap (λ (read : ProofClaim × List (List ℕ)). read.1) (parts_are head same))))

    pub one_head : (prefix : ProofPrefix) (rest : List (List ℕ)) → Reads prefix_words IsProofPrefix left (Some (prefix, rest))
        → Reads (proof_head_words number) IsProofHead words (Some (head_with claim prefix, rest))
    one_head prefix rest prefixes =
        one_spelled (proof_head_words number) IsProofHead words (head_with claim prefix, rest)
        (record { path = prefixes.found.0.path; steps = prefixes.found.0.steps })
        (claims.found.1 ∙ ap (λ (behind : List (List ℕ)). numbered_claim_words number (claim, behind)) prefixes.found.1)
        (λ head lawful same.
        let parts = parts_are head same in
        let behind = same_Some (prefix, rest) (prefix_in head.0, head.1)
        (prefixes.only (prefix_in head.0, head.1) (record { path = lawful.path; steps = lawful.steps })
        (ap (λ (read : ProofClaim × List (List ℕ)). read.1) parts)) in
        (λ i. (head_with (parts i).0 (behind i).0, (behind i).1)))
