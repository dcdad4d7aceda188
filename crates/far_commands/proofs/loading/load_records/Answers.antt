use Rattle.std.proofs.Common.{ℕ, List, Bor, Some, ◌∙◌, inr}
use Rattle.csv.specs.Reading.{strip_bom}
use Rattle.far_commands.specs.Replies.{records_of}
use Rattle.far_commands.proofs.LoadingLaws.{remains-first}
use Rattle.far_commands.proofs.ResultLaws.{each-ok}
use Rattle.far_commands.proofs.loading.load_records.Goals as goal

pub returns-clause-ok : goal.returns-clause-ok
returns-clause-ok g c =
    let r = c.from_reader-reader.ensures in
    let h = c.has_headers.ensures in
    let f = c.flexible.ensures in
    let n = c.new.ensures in
    each-ok c.insert_records.result _ _ (λ loaded loads. loads (records_of c.args.text.now) (remains-first (λ (s : Bor (List ℕ)). Some s.now) c.from_reader-reader.result (strip_bom c.args.text.now) (rw c.as_bytes.ensures.value at r.source) r.state
    (rw (f, h) at r.trim ∙ n.trim) (inr (inr (rw (f, h) at r.has_headers, r.headers))) (rw (f, h) at r.config ∙ n.config))) c.insert_records.ensures.ok
