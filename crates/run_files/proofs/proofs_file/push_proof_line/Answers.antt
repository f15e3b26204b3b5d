-- The pieces of a proof's line, one behind another, are the line.
use Rattle.std.proofs.Common.{◌≡◌, ◌∙◌, ◌++◌, List, ℕ, ap, rules, append_assoc, decimal, flat_map}
use Rattle.text_pieces.specs.Tokens.{after_space, direction_word, kind_word, line}
use Rattle.run_files.specs.ProofsText.{claim_word, node_text}
use Rattle.run_files.proofs.ProofLines.{text_joined}
use Rattle.run_files.proofs.proofs_file.push_proof_line.Goals as goal

pub returns : goal.returns
returns c =
    let proof = c.args.proof.now in
    let pushed : c.push.new.self.items ≡ c.args.out.now.items ++ line (decimal c.args.number
    ++ after_space (claim_word proof.spent) ++ after_space (kind_word proof.kind) ++ after_space (direction_word proof.dir)
    ++ after_space (decimal proof.path) ++ after_space (decimal proof.steps) ++ flat_map (λ node. after_space (node_text node)) proof.tree) =
    search (rules, append_assoc) in
    pushed ∙ ap (λ (text : List ℕ). c.args.out.now.items ++ line text) (text_joined c.args.number proof)
