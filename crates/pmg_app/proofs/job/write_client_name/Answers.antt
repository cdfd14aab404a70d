use Rattle.std.proofs.Common.{◌≡◌, ℕ, List, codes, decimal, ◌++◌, ap, subst, rules}
use Rattle.pmg_value.specs.Written.{AppendsFront}
use Rattle.pmg_value.proofs.WrittenLemmas.{front_of_first, two_parts}
use Rattle.pmg_app.specs.Job.{client_name}
use Rattle.pmg_app.proofs.job.write_client_name.Goals as goal

-- the text before the rank
abbrev before_rank : List ℕ → List ℕ
before_rank name = codes "client " ++ (name ++ codes " ")

pub returns-in_err-put_texts-clause-text : goal.returns-in_err-put_texts-clause-text
unfolding client_name
returns-in_err-put_texts-clause-text g c =
    let rank = decimal c.args.proc.now.rank in (
      subst (λ (name : List ℕ). AppendsFront (g.W.Write.contents c.args.writer.now.writer) (g.W.Write.contents c.put_texts.new.self.writer) (before_rank name ++ rank))
          c.as_bytes.ensures.value (front_of_first rank c.in_err-put_texts.ensures.text.0),
      search rules,
    )

pub returns-clause-text : goal.returns-clause-text
unfolding client_name
returns-clause-text g c =
    let rank : c.from.result ≡ c.args.proc.now.rank = search rules in
    two_parts c.put_number.result (g.W.Write.contents c.args.writer.now.writer) (g.W.Write.contents c.put_texts.new.self.writer) (g.W.Write.contents c.put_number.new.self.writer)
    (before_rank c.as_bytes.result.now) (decimal c.from.result) (before_rank c.args.proc.now.nspace) (decimal c.args.proc.now.rank)
    (ap before_rank c.as_bytes.ensures.value) (ap decimal rank) c.put_number.ensures.text c.in_ok-put_texts.ensures.text.1
