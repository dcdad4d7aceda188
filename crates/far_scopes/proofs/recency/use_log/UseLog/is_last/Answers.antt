use Rattle.std.proofs.Common.{◌≡◌, ◌+◌, nat_eq, get_or, ap, ◌∙◌, arith}
use Rattle.std.proofs.lemmas.List.{get_or_read}
use Rattle.far_scopes.proofs.RecencyLog.{is-last, used-at}
use Rattle.far_scopes.proofs.recency.use_log.UseLog.is_last.Goals as goal

pub index-requires : goal.index-requires
index-requires c =
    let log = c.args.self.now in
    let o_is : c.index-o.result.now ≡ get_or log.uses.items c.args.at 0 = get_or_read log.uses.items c.args.at c.index-o.result.now c.requires c.index-o.ensures 0 in
    omega (arith, o_is, used-at log.uses.items log.last.items log.noted c.args.at c.requires)

pub returns : goal.returns
returns c =
    let log = c.args.self.now in
    let o_is : c.index-o.result.now ≡ get_or log.uses.items c.args.at 0 = get_or_read log.uses.items c.args.at c.index-o.result.now c.requires c.index-o.ensures 0 in
    let known = used-at log.uses.items log.last.items log.noted c.args.at c.requires in
    let last_is : c.index.result.now ≡ get_or log.last.items c.index-o.result.now 0 = get_or_read log.last.items c.index-o.result.now c.index.result.now (omega (arith, o_is, known)) c.index.ensures 0 in
    ap (λ n. nat_eq n (c.args.at + 1)) (last_is ∙ ap (λ q. get_or log.last.items q 0) o_is)
    ∙ is-last log.uses.items log.last.items log.noted c.args.at c.requires
