use Rattle.std.proofs.Common.{◌≡◌, ◌-◌, nat_eq, get_or, sym, ap, ◌∙◌, arith}
use Rattle.std.proofs.lemmas.List.{get_or_read}
use Rattle.far_scopes.proofs.RecencyLog.{unused-past, unused-index, is-used}
use Rattle.far_scopes.proofs.recency.use_log.UseLog.has.Goals as goal

pub returns-then-at-len : goal.returns-then-at-len
returns-then-at-len c =
    let log = c.args.self.now in
    sym (unused-past log.uses.items log.last.items log.noted c.args.o (omega arith))

pub returns-then-last-eq0 : goal.returns-then-last-eq0
returns-then-last-eq0 c =
    let log = c.args.self.now in
    let last_is : c.index.result.now ≡ get_or log.last.items c.args.o 0 = get_or_read log.last.items c.args.o c.index.result.now (omega arith) c.index.ensures 0 in
    sym (unused-index log.uses.items log.last.items log.noted c.args.o (λ known. omega (arith, known.0, last_is)))

pub returns-then-last-len : goal.returns-then-last-len
returns-then-last-len c =
    let log = c.args.self.now in
    let last_is : c.index.result.now ≡ get_or log.last.items c.args.o 0 = get_or_read log.last.items c.args.o c.index.result.now (omega arith) c.index.ensures 0 in
    sym (unused-index log.uses.items log.last.items log.noted c.args.o (λ known. omega (arith, known.1, last_is)))

pub returns : goal.returns
returns c =
    let log = c.args.self.now in
    let last_is : c.index.result.now ≡ get_or log.last.items c.args.o 0 = get_or_read log.last.items c.args.o c.index.result.now (omega arith) c.index.ensures 0 in
    let item : c.index-used.result.now ≡ get_or log.uses.items (c.index.result.now - 1) 0 = get_or_read log.uses.items (c.index.result.now - 1) c.index-used.result.now (omega arith) c.index-used.ensures 0 in
    ap (λ n. nat_eq n c.args.o) (item ∙ ap (λ n. get_or log.uses.items (n - 1) 0) last_is)
    ∙ is-used log.uses.items log.last.items log.noted c.args.o (omega (arith, last_is)) (omega (arith, last_is))
