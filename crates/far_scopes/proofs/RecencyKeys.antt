-- The keys of the entries are the order.
use Rattle.std.proofs.Common.{◌≡◌, ℕ, ◌-◌, ◌≤◌, true, false, ◌||◌, List, [], ◌∷◌, length, cond, nat_eq, Option, Some, None, refl, sym, ap, ◌∙◌}
use Rattle.std.specs.Prelude.{is_some}
use Rattle.std.specs.Map.{lookup, lookup_entry, remove_entry, keys_of}
use Rattle.std.specs.Option.{option_map_or}
use Rattle.std.proofs.lemmas.Bool.{eqb-true}
use Rattle.std.proofs.lemmas.List.{take_all}
use Rattle.lru.proofs.CallerLemmas.{Contains-lookup_entry}
use Rattle.lru.specs.LruCache.{promoted, put_entries, LruCache}
use Rattle.far_scopes.specs.Recency.{has, without, after_use}

module _ {V : Type 0} (o : ℕ) where
  pub has_keys : (es : List (ℕ × V)) → has (keys_of es) o ≡ is_some (lookup (nat_eq o) es)
  has_keys [] = refl
  has_keys (e ∷ es) = (elim (nat_eq o e.0) as (λ b. b || has (keys_of es) o ≡ is_some (cond b (Some e.1) (lookup (nat_eq o) es))) [ true ↦ refl | false ↦ has_keys es ])

  pub without_keys : (es : List (ℕ × V)) → keys_of (remove_entry (nat_eq o) es) ≡ without (keys_of es) o
  without_keys [] = refl
  without_keys (e ∷ es) = (elim (nat_eq o e.0) as (λ b. keys_of (cond b es (e ∷ remove_entry (nat_eq o) es)) ≡ cond b (keys_of es) (e.0 ∷ without (keys_of es) o)) [ true ↦ refl | false ↦ ap (λ l. e.0 ∷ l) (without_keys es) ])

  has_entry : (es : List (ℕ × V)) → has (keys_of es) o ≡ is_some (lookup_entry (nat_eq o) es)
  has_entry [] = refl
  has_entry (e ∷ es) = (elim (nat_eq o e.0) as (λ b. b || has (keys_of es) o ≡ is_some (cond b (Some e) (lookup_entry (nat_eq o) es))) [ true ↦ refl | false ↦ has_entry es ])

  key_is : (es : List (ℕ × V)) (e : ℕ × V) → lookup_entry (nat_eq o) es ≡ Some e → e.0 ≡ o
  key_is es e h = sym (eqb-true o e.0 (Contains-lookup_entry (nat_eq o) es e h).1)

  used_cases : (es : List (ℕ × V)) (m : Option (ℕ × V)) → lookup_entry (nat_eq o) es ≡ m → keys_of (option_map_or (λ e. e ∷ remove_entry (nat_eq o) es) m es) ≡ cond (is_some m) (o ∷ without (keys_of es) o) (keys_of es)
  used_cases es None h = refl
  used_cases es (Some e) h = ap (λ k. k ∷ keys_of (remove_entry (nat_eq o) es)) (key_is es e h) ∙ ap (λ l. o ∷ l) (without_keys es)

  pub after_use_keys : (es : List (ℕ × V)) → keys_of (promoted (nat_eq o) es) ≡ after_use (keys_of es) o
  after_use_keys es = used_cases es (lookup_entry (nat_eq o) es) refl ∙ ap (λ b. cond b (o ∷ without (keys_of es) o) (keys_of es)) (sym (has_entry es))

  not_some : (m : Option (ℕ × V)) → is_some m ≡ false → m ≡ None
  not_some None e = refl
  not_some (Some x) e = cc

  -- a number that was not in the order is added first
  pub added_keys : (c : LruCache ℕ V) (v : V) → has (keys_of c.entries) o ≡ false → length c.entries ≤ c.cap - 1 → keys_of (put_entries nat_eq c o v) ≡ o ∷ keys_of c.entries
  added_keys c v h fits = rw (not_some _ (sym (has_entry c.entries) ∙ h)) (ap (λ es. o ∷ keys_of es) (take_all (c.cap - 1) c.entries fits))
