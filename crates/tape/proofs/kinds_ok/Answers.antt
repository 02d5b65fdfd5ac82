use Rattle.std.proofs.Common.{rules, ap, ◌∙◌}
use Rattle.std.proofs.lemmas.List.{take_all}
use Rattle.std.specs.Slice.Iter.{chunks_exact_size, chunks_exact_rest}
use Rattle.tape.proofs.Chunks.{kinds_told}
use Rattle.tape.specs.Tape.{entry_kinds_test}
use Rattle.tape.proofs.kinds_ok.Goals as goal

pub returns : goal.returns
unfolding entry_kinds_test
returns c =
    let run = c.all.ensures.runs in
    let size = ap chunks_exact_size run.1 ∙ c.chunks_exact.ensures.size in
    kinds_told run.0 _ _ c.args.tape.now size (ap chunks_exact_rest run.1 ∙ (c.chunks_exact.ensures.rest ∙ search (rules, take_all))) (c.chunks_exact.ensures.runs run.0 run.0.seen (rw size (search rules))) c.all.result run.2
    (λ x r q k. search rules) (λ x k. search rules) (λ x k. search rules)
