-- Each step preserves the rule.
use Rattle.std.proofs.Common.{◌≡◌, ◌≢◌, ℕ, ◌+◌, List, [], ◌∷◌, ◌++◌, length, set, None, true, false, cond, nat_eq, true≢false, refl, sym, ap, ◌∙◌, subst, arith}
use mathlib.Core.List.{IsPrefix}
use Rattle.crossbeam_utils.specs.Register.{Turns, Forks, Merges}
use Rattle.far_types.specs.declared.edit.Edit.{Edit}
use Rattle.far_types.specs.Edits.{edit_refusal}
use Rattle.far_types.specs.Table.{empty_table}
use Rattle.far_sessions.specs.Histories.{Planned, replay, by_session, AllBelow}
use Rattle.far_sessions.specs.Rule.{entry, IsReadingAfter, FitsPass, HoldsHistory, Looks, with_edit, Adds}
use Rattle.far_sessions.specs.Views.{keeper, with_session_of, no_part, keeper_part, session_part, after_give, new_session}
use Rattle.far_sessions.specs.declared.view.Entry.{Entry}
use Rattle.far_sessions.specs.declared.view.PassView.{PassView}
use Rattle.far_sessions.proofs.Lists.{set_each, snoc_each, length_set, prefix_self, prefix_more, cond_eq, cond_ne}
use Rattle.far_sessions.proofs.Histories.{legal-push, below-push, below-more, by_session-same, by_session-other, by_session-new}

off : {A : Type 0} → false ≡ true → A
off e = absurd (true≢false (sym e))

pub begins : (p : Planned) (words : List ℕ) → IsReadingAfter p words [] → HoldsHistory p words (keeper [] 0 ∷ [])
begins p words reads = record {
  keeper_at = 0;
  owner = λ _. 0;
  given = 0;
  log = [];
  reads = reads;
  legal = tt;
  below = tt;
  each = snoc_each (FitsPass 0 (λ _. 0) 0 []) [] (keeper [] 0) (λ j u lt e. absurd (omega arith)) (record { keeps = λ _. (refl, refl, refl); has_session = off });
}

pub looks : (p : Planned) (by : ℕ) (v : PassView) → v.has_session ≡ true → Turns (HoldsHistory p) by v (λ x. x) (Looks p)
looks p by v has_session words views h at =
    let mine = h.each by v at in
    let s = mine.has_session has_session in
    let w : PassView = record v { seen = h.log } in
    let P : ℕ → PassView → Type 0 = FitsPass h.keeper_at h.owner h.given h.log in (
      w,
      record {
        keeper_at = h.keeper_at;
        owner = h.owner;
        given = h.given;
        log = h.log;
        reads = h.reads;
        legal = h.legal;
        below = h.below;
        each = set_each P views by w (λ j u ne e. h.each j u e) (record { keeps = mine.keeps; has_session = λ _. (s.0, s.1, prefix_self h.log, s.3) });
      },
      (refl, s.2, (λ k. sym (mine.keeps k).1), h.legal, h.reads, s.3, (λ k. subst (λ n. AllBelow n h.log) (sym (mine.keeps k).2) h.below)),
    )

pub adds : (p : Planned) (by : ℕ) (v : PassView) (e : Edit) (new : List ℕ) → v.keeps ≡ true → v.has_session ≡ true → IsReadingAfter p new (v.all ++ entry v.by e ∷ []) → edit_refusal (replay p v.all) e ≡ None → Turns (HoldsHistory p) by v (λ _. new) (Adds e)
adds p by v e new keeps has_session reads may words views h at =
    let mine = h.each by v at in
    let k = mine.keeps keeps in
    let s = mine.has_session has_session in
    let w : PassView = with_edit v e in
    let x : Entry = entry v.by e in
    let log : List Entry = h.log ++ x ∷ [] in
    let P : ℕ → PassView → Type 0 = FitsPass h.keeper_at h.owner h.given log in (
      w,
      record {
        keeper_at = h.keeper_at;
        owner = h.owner;
        given = h.given;
        log = log;
        reads = subst (λ l. IsReadingAfter p new (l ++ x ∷ [])) k.1 reads;
        legal = legal-push (empty_table p.schema p.limits) h.log x h.legal (subst (λ l. edit_refusal (replay p l) e ≡ None) k.1 may);
        below = below-push h.given h.log x h.below s.1;
        each = set_each P views by w
            (λ j u ne e'. let f = h.each j u e' in record {
              keeps = λ q. absurd (ne ((f.keeps q).0 ∙ sym k.0));
              has_session = λ q. let t = f.has_session q in (t.0, t.1, prefix_more u.seen h.log (x ∷ []) t.2, by_session-other u.by h.log x (λ same. ne (t.0 ∙ ap h.owner (sym same) ∙ sym s.0)) ∙ t.3);
            })
            (record {
              keeps = λ _. (k.0, ap (λ l. l ++ x ∷ []) k.1, k.2);
              has_session = λ _. (s.0, s.1, subst (λ l. IsPrefix (l ++ x ∷ []) log) (sym k.1) (prefix_self log), by_session-same v.by h.log e ∙ ap (λ l. l ++ x ∷ []) s.3);
            });
      },
      refl,
    )

-- splitting a session off its pass preserves the rule
pub splits : (p : Planned) (by : ℕ) (v : PassView) → Forks (HoldsHistory p) by v (keeper_part v) (session_part v)
splits p by v words views h at =
    let mine = h.each by v at in
    let n : ℕ = length views in
    let left : PassView = keeper_part v in
    let right : PassView = session_part v in
    let owner : ℕ → ℕ = λ m. cond (nat_eq (h.owner m) by) n (h.owner m) in
    let P : ℕ → PassView → Type 0 = FitsPass h.keeper_at owner h.given h.log in record {
      keeper_at = h.keeper_at;
      owner = owner;
      given = h.given;
      log = h.log;
      reads = h.reads;
      legal = h.legal;
      below = h.below;
      each = snoc_each P (set views by left) right
          (λ j u _ e. set_each P views by left
          (λ i y ne e'. let f = h.each i y e' in record { keeps = f.keeps; has_session = λ q. let t = f.has_session q in (t.0 ∙ sym (cond_ne (h.owner y.by) by n (h.owner y.by) (λ same. ne (t.0 ∙ same))), t.1, t.2, t.3) })
          (record { keeps = mine.keeps; has_session = off }) j u e)
          (record { keeps = off; has_session = λ q. let t = mine.has_session q in (length_set views by left ∙ sym (cond_eq (h.owner v.by) by n (h.owner v.by) (sym t.0)), t.1, t.2, t.3) });
    }

-- joining a session to a pass preserves the rule
pub joins : (p : Planned) (by : ℕ) (v : PassView) (other : ℕ) (w : PassView) → Merges (HoldsHistory p) by v other w (with_session_of v w) no_part
joins p by v other w words views h at distinct there =
    let mine = h.each by v at in
    let both : PassView = with_session_of v w in
    let theirs = set_each (λ j u. j ≡ other → FitsPass h.keeper_at h.owner h.given h.log j u) views by both (λ j u ne e' _. h.each j u e') (λ same. absurd (distinct (sym same))) other w there refl in
    let owner : ℕ → ℕ = λ m. cond (nat_eq (h.owner m) other) by (h.owner m) in
    let P : ℕ → PassView → Type 0 = FitsPass h.keeper_at owner h.given h.log in
    let Q : ℕ → PassView → Type 0 = λ j u. j ≢ other → P j u in record {
      keeper_at = h.keeper_at;
      owner = owner;
      given = h.given;
      log = h.log;
      reads = h.reads;
      legal = h.legal;
      below = h.below;
      each = set_each P (set views by both) other no_part
          (λ j u ne e. set_each Q views by both
          (λ i y _ e' ne'. let f = h.each i y e' in record { keeps = f.keeps; has_session = λ q. let t = f.has_session q in (t.0 ∙ sym (cond_ne (h.owner y.by) other by (h.owner y.by) (λ same. ne' (t.0 ∙ same))), t.1, t.2, t.3) })
          (λ _. record { keeps = mine.keeps; has_session = λ q. let t = theirs.has_session q in (sym (cond_eq (h.owner w.by) other by (h.owner w.by) (sym t.0)), t.1, t.2, t.3) }) j u e ne)
          (record { keeps = off; has_session = off });
    }

-- creating a session preserves the rule
pub gives : (p : Planned) (by : ℕ) (v : PassView) → v.keeps ≡ true → Forks (HoldsHistory p) by v (after_give v) (new_session v)
gives p by v keeps words views h at =
    let mine = h.each by v at in
    let k = mine.keeps keeps in
    let n : ℕ = length views in
    let left : PassView = after_give v in
    let right : PassView = new_session v in
    let owner : ℕ → ℕ = λ m. cond (nat_eq m h.given) n (h.owner m) in
    let P : ℕ → PassView → Type 0 = FitsPass h.keeper_at owner (h.given + 1) h.log in record {
      keeper_at = h.keeper_at;
      owner = owner;
      given = h.given + 1;
      log = h.log;
      reads = h.reads;
      legal = h.legal;
      below = below-more h.given h.log h.below;
      each = snoc_each P (set views by left) right
          (λ j u _ e. set_each P views by left
          (λ i y ne e'. let f = h.each i y e' in record {
            keeps = λ q. absurd (ne ((f.keeps q).0 ∙ sym k.0));
            has_session = λ q. let t = f.has_session q in (t.0 ∙ sym (cond_ne y.by h.given n (h.owner y.by) (λ same. omega (arith, t.1, same))), omega (arith, t.1), t.2, t.3);
          })
          (record { keeps = λ _. (k.0, k.1, ap (λ m. m + 1) k.2); has_session = off }) j u e)
          (record {
            keeps = off;
            has_session = λ _. (length_set views by left ∙ sym (cond_eq v.given h.given n (h.owner v.given) k.2), omega (arith, k.2), subst (λ l. IsPrefix l h.log) (sym k.1) (prefix_self h.log), ap (λ m. by_session m h.log) k.2 ∙ by_session-new h.given h.given h.log h.below (omega arith));
          });
    }
