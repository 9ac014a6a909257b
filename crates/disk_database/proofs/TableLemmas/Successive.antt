-- Rows read one after another.
use Rattle.std.proofs.Common.{◌≡◌, ◌⊎◌, ◌≤◌, ◌<◌, ℕ, Bool, true, false, refl, sym, ap, ◌∙◌, subst, arith, inl, inr}
use Rattle.std.proofs.lemmas.Bool.{cases_lt}
use Rattle.std.proofs.Math.Logic.{∥∥₁_elim, ∥∥₁_map, ∥∥₁_prop}
use Rattle.std.specs.Prelude.{IsTrue}
use Rattle.storage.specs.faults.Faults.{Rose}
use Rattle.row_store.specs.Rows.{Durable, RowState, durable_of, Fails}
use Rattle.row_store.specs.Times.{Rests, Times}
use Rattle.disk_database.specs.table.Calls.{HasRead}
use Rattle.disk_database.proofs.TableLemmas.Appended.{rose_later}

-- what a stop leaves after one call
pub leaves_one : (old : RowState) (before after : ℕ → Durable → Type 0) (was now : Times) → Rests old before after was now → IsTrue old.observable → (m : ℕ) (durable : Durable) → after m durable
    → ∥ before m durable ⊎ ((durable ≡ durable_of old) ⊎ (durable ≡ was.doubt)) ∥₁
leaves_one old before after was now rests observable m durable left = by_time (cases_lt was.moment m)
  where
    doubt : now.doubt ≡ was.doubt
    doubt = rests.doubt observable

    later : (durable ≡ durable_of old) ⊎ (durable ≡ now.doubt) → before m durable ⊎ ((durable ≡ durable_of old) ⊎ (durable ≡ was.doubt))
    later (inl is) = inr (inl is)
    later (inr is) = inr (inr (is ∙ doubt))

    by_time : (was.moment < m) ⊎ (m ≤ was.moment) → ∥ before m durable ⊎ ((durable ≡ durable_of old) ⊎ (durable ≡ was.doubt)) ∥₁
    by_time (inl after_it) = ∥∥₁_map (rests.goes.here m durable after_it left) later
    by_time (inr up_to_it) = ∣ inl (rests.goes.nothing_else m durable up_to_it left) ∣₁

-- no call
pub reads_none : (s : RowState) (left : ℕ → Durable → Type 0) (times : Times) (faults : ℕ) → HasRead s s left left times times faults faults false
reads_none s left times faults = record {
  same = λ no. refl;
  fails = λ yes. absurd (cc yes);
  leaves = λ observable m durable known. ∣ inl known ∣₁;
  doubt = λ observable. refl;
  since = refl;
  later = omega arith;
  faults = omega arith;
  rose = λ yes. absurd (cc yes);
}

-- two calls, of which the first did not fail
pub reads_both : (a b c : RowState) (la lb lc : ℕ → Durable → Type 0) (ta tb tc : Times) (fa fb fc : ℕ) (failed : Bool) → HasRead a b la lb ta tb fa fb false → HasRead b c lb lc tb tc fb fc failed → HasRead a c la lc ta tc fa fc failed
reads_both a b c la lb lc ta tb tc fa fb fc failed first second = record {
  same = λ no. second.same no ∙ is;
  fails = λ yes. subst (λ (s : RowState). Fails s c) is (second.fails yes);
  leaves = leaves;
  doubt = λ observable. second.doubt (there observable) ∙ first.doubt observable;
  since = second.since ∙ first.since;
  later = omega (arith, first.later, second.later);
  faults = omega (arith, first.faults, second.faults);
  rose = λ yes. rose (second.rose yes);
}
  where
    is : b ≡ a
    is = first.same refl

    there : IsTrue a.observable → IsTrue b.observable
    there observable = subst (λ (s : RowState). IsTrue s.observable) (sym is) observable

    rose : Rose fb fc ⊎ IsTrue b.failed → Rose fa fc ⊎ IsTrue a.failed
    rose (inl more) = inl (rose_later fa fb fc first.faults second.faults more)
    rose (inr was) = inr (subst (λ (s : RowState). IsTrue s.failed) is was)

    leaves : IsTrue a.observable → (m : ℕ) (durable : Durable) → lc m durable → ∥ la m durable ⊎ ((durable ≡ durable_of a) ⊎ (durable ≡ ta.doubt)) ∥₁
    leaves observable m durable known = ∥∥₁_elim (second.leaves (there observable) m durable known) ∥∥₁_prop earlier
      where
        earlier : lb m durable ⊎ ((durable ≡ durable_of b) ⊎ (durable ≡ tb.doubt)) → ∥ la m durable ⊎ ((durable ≡ durable_of a) ⊎ (durable ≡ ta.doubt)) ∥₁
        earlier (inl left) = first.leaves observable m durable left
        earlier (inr (inl at)) = ∣ inr (inl (at ∙ ap durable_of is)) ∣₁
        earlier (inr (inr at)) = ∣ inr (inr (at ∙ first.doubt observable)) ∣₁

-- a call that asks, which did not fail
pub reads_quiet : (old new : RowState) (before after : ℕ → Durable → Type 0) (was now : Times) (fa fb : ℕ) → new ≡ old → fa ≤ fb → Rests old before after was now → HasRead old new before after was now fa fb false
reads_quiet old new before after was now fa fb is later rests = record {
  same = λ no. is;
  fails = λ yes. absurd (cc yes);
  leaves = leaves_one old before after was now rests;
  doubt = rests.doubt;
  since = rests.goes.since;
  later = rests.goes.later;
  faults = later;
  rose = λ yes. absurd (cc yes);
}

-- one that failed
pub reads_failing : (old new : RowState) (before after : ℕ → Durable → Type 0) (was now : Times) (fa fb : ℕ) → Fails old new → fa ≤ fb → Rose fa fb ⊎ IsTrue old.failed → Rests old before after was now → HasRead old new before after was now fa fb true
reads_failing old new before after was now fa fb fails later rose rests = record {
  same = λ no. absurd (cc no);
  fails = λ yes. fails;
  leaves = leaves_one old before after was now rests;
  doubt = rests.doubt;
  since = rests.goes.since;
  later = rests.goes.later;
  faults = later;
  rose = λ yes. rose;
}
