-- Parts of steps.
use Rattle.std.proofs.Common.{◌≡◌, ◌≤◌, arith, refl, ℕ, zero, suc, Bool, true, false, List, [], ◌∷◌, Option, Some, None}
use Rattle.abl_base.specs.declared.value.Kind.{Kind}
use Rattle.abl_base.specs.declared.value.Value.{Value}
use Rattle.bound_tree.specs.declared.statement.Target.{Target}
use Rattle.bound_tree.specs.declared.statement.Target.TheVariants as target
use Rattle.bound_tree.specs.Tree.{Body, Expr}
use Rattle.database_protocol.specs.declared.operation.Op.{Op}
use Rattle.expression_meaning.specs.Operators.{holds}
use Rattle.block_meaning.specs.declared.wants.Piece.{Piece}
use Rattle.block_meaning.specs.Blocks.{complained, line_piece}
use Rattle.block_meaning.specs.Changes.{as_before, stored, stored_if, stored_in, stored_value, with_field}
use Rattle.block_meaning.specs.Frames.{all_emptied, assigned, content_of, emptied, holding}
use Rattle.block_meaning.specs.Lines.{Complaint}
use Rattle.block_meaning.specs.Meaning.{cleared}
use Rattle.block_meaning.specs.Program.{Program}
use Rattle.block_meaning.specs.State.{Completion, Content, Copy, Empty, EndKeys, Faults, Normal, Pending, Raises, Record, State, Stops, Undoes, written_if, wrote}
use Rattle.block_meaning.specs.Streams.{read_to, read_up_to, stream_at}
use Rattle.block_meaning.specs.Values.{Evaluated, EvaluatedAll, Fails, FailsAll, Gives, GivesAll, fit, value_now}
use Rattle.flat_machine.specs.Config.{Config, OnAnswer, StackEntry, Unwind}
use Rattle.flat_machine.specs.Means.{contents_back, first_of, less}
use Rattle.flat_machine.specs.Steps.{ask, asked_from, config, config_if, costing, given_all_step, given_step, judge_step, test_step}
use Rattle.machine_laws.proofs.LevelsLemmas.Kept.{AwaitAt, Comes, FirstAt, Sound, StackAt, class, takes}

-- ---- states

pub cleared_level : (quiet : Bool) (s : State) → (cleared quiet s).level ≡ s.level
cleared_level true s = refl
cleared_level false s = refl

written_level : (b : Bool) (piece : Piece) (s : State) → (written_if b piece s).state.level ≡ s.level
written_level true piece s = refl
written_level false piece s = refl

pub wrote_level : (piece : Piece) (s : State) → (wrote piece s).state.level ≡ s.level
wrote_level piece s = written_level _ piece s

pub complained_level : (p : Program) (c : Option Complaint) (s : State) → (complained p c s).state.level ≡ s.level
complained_level p None s = refl
complained_level p (Some c) s = wrote_level (line_piece p c s) s

read_level : (o : Option ℕ) (n next : ℕ) (s : State) → (read_up_to o n (stream_at n s) next s).level ≡ s.level
read_level None n next s = refl
read_level (Some i) n next s = refl

pub read_to_level : (n next : ℕ) (s : State) → (read_to n next s).level ≡ s.level
read_to_level n next s = read_level (stream_at n s).input n next s

pub all_emptied_level : (bs : List ℕ) (s : State) → (all_emptied bs s).level ≡ s.level
all_emptied_level [] s = refl
all_emptied_level (b ∷ bs) s = all_emptied_level bs (emptied b s)

pub back_level : (cs : List Content) (bs : List ℕ) (s : State) → (contents_back cs bs s).level ≡ s.level
back_level cs [] s = refl
back_level cs (b ∷ bs) s = back_level (less cs) bs (holding b (as_before (first_of cs) (content_of b s)) s)

field_level : (f : ℕ) (v : Value) (b : ℕ) (c : Content) (s : State) → (with_field f v b c s).level ≡ s.level
field_level f v b Empty s = refl
field_level f v b (Record row values lock made) s = refl
field_level f v b (Pending values since made) s = refl

value_level : (x : Evaluated) (set : Value → State → State) (s : State) → ((v : Value) → (set v s).level ≡ s.level) → (stored_value x set s).state.level ≡ s.level
value_level (Gives v) set s h = h v
value_level (Fails c) set s h = refl

in_level : (c : Content) (b f : ℕ) (k : Kind) (v : Value) (s : State) → (stored_in c b f k v s).state.level ≡ s.level
in_level Empty b f k v s = refl
in_level (Record row values lock made) b f k v s = value_level (fit k v) (λ v. with_field f v b (Record row values lock made)) s (λ w. refl)
in_level (Pending values since made) b f k v s = value_level (fit k v) (λ v. with_field f v b (Pending values since made)) s (λ w. refl)

pub stored_level : (t : Target) (v : Value) (s : State) → (stored t v s).state.level ≡ s.level
stored_level (target.Variable x) v s = value_level (fit x.kind v) (assigned x) s (λ w. refl)
stored_level (target.Field b f k) v s = in_level (content_of b s) b f k v s

pub stored_if_level : (x : Evaluated) (t : Target) (s : State) → (stored_if x t s).state.level ≡ s.level
stored_if_level (Gives v) t s = stored_level t v s
stored_if_level (Fails c) t s = refl

-- the completion of an assignment or of a text is the end, a fault or a stop
pub value_class : (x : Evaluated) (set : Value → State → State) (s : State) → class (stored_value x set s).completion ≡ 0
value_class (Gives v) set s = refl
value_class (Fails c) set s = refl

in_class : (c : Content) (b f : ℕ) (k : Kind) (v : Value) (s : State) → class (stored_in c b f k v s).completion ≡ 0
in_class Empty b f k v s = refl
in_class (Record row values lock made) b f k v s = value_class (fit k v) (λ v. with_field f v b (Record row values lock made)) s
in_class (Pending values since made) b f k v s = value_class (fit k v) (λ v. with_field f v b (Pending values since made)) s

pub stored_class : (t : Target) (v : Value) (s : State) → class (stored t v s).completion ≡ 0
stored_class (target.Variable x) v s = value_class (fit x.kind v) (assigned x) s
stored_class (target.Field b f k) v s = in_class (content_of b s) b f k v s

pub stored_if_class : (x : Evaluated) (t : Target) (s : State) → class (stored_if x t s).completion ≡ 0
stored_if_class (Gives v) t s = stored_class t v s
stored_if_class (Fails c) t s = refl

written_class : (b : Bool) (piece : Piece) (s : State) → class (written_if b piece s).completion ≡ 0
written_class true piece s = refl
written_class false piece s = refl

pub wrote_class : (piece : Piece) (s : State) → class (wrote piece s).completion ≡ 0
wrote_class piece s = written_class _ piece s

pub complained_class : (p : Program) (c : Option Complaint) (s : State) → class (complained p c s).completion ≡ 0
complained_class p None s = refl
complained_class p (Some c) s = wrote_class (line_piece p c s) s

-- ---- completions

-- at the level where all completions come
pub comes : (completion : Completion) (k : ℕ) → class completion ≤ 1 → Comes completion k k k
comes Normal k h = refl
comes (Faults c) k h = refl
comes (Stops end) k h = tt
comes (EndKeys passed) k h = first passed.first h
  where
    first : (o : Option Copy) → class (EndKeys (record passed { first = o })) ≤ 1 → FirstAt k o k
    first None h = refl
    first (Some copy) h = absurd (omega (arith, h))
comes (Undoes block act retry passed) k h = absurd (omega (arith, h))
comes (Raises passed) k h = absurd (omega (arith, h))
comes completion k h = refl

module _ (tree : ℕ → Body) (k : ℕ) where
  -- a completion that leaves the level, over a stack that is reached at one level
  pub unwinds : (completion : Completion) (ks : List StackEntry) (s : State) → s.level ≡ k → StackAt tree ks k k → class completion ≤ 1 → class completion ≤ takes ks → Sound tree k (config (Unwind completion) ks s)
  unwinds completion ks s e st c h = (e, (k, k, comes completion k c, st, h))

  -- the end, a fault or a stop
  pub plain_unwinds : (completion : Completion) (ks : List StackEntry) (s : State) → s.level ≡ k → StackAt tree ks k k → class completion ≡ 0 → Sound tree k (config (Unwind completion) ks s)
  plain_unwinds completion ks s e st c = (e, (k, k, comes completion k (omega (arith, c)), st, omega (arith, c)))

  pub sound_if : (b : Bool) (one other : Config) → (b ≡ true → Sound tree k one) → (b ≡ false → Sound tree k other) → Sound tree k (config_if b one other)
  sound_if true one other x y = x refl
  sound_if false one other x y = y refl

  asked : (n : ℕ) (o : Op) (on : OnAnswer) (ks : List StackEntry) (s : State) → s.level ≡ k → ((n : ℕ) × (f : ℕ) × StackAt tree ks n f) → AwaitAt tree ks o on k → Sound tree k (asked_from n o on ks s)
  asked zero o on ks s e st a = (e, (st.0, st.1, tt, st.2, omega arith))
  asked (suc n) o on ks s e st a = (e, a)

  -- an operation is asked, over a stack that is reached somehow
  pub asks_over : (o : Op) (on : OnAnswer) (ks : List StackEntry) (s : State) → s.level ≡ k → ((n : ℕ) × (f : ℕ) × StackAt tree ks n f) → AwaitAt tree ks o on k → Sound tree k (ask o on ks s)
  asks_over o on ks s e st a = asked s.units o on ks s e st a

  pub asks : (o : Op) (on : OnAnswer) (ks : List StackEntry) (s : State) → s.level ≡ k → StackAt tree ks k k → AwaitAt tree ks o on k → Sound tree k (ask o on ks s)
  asks o on ks s e st a = asks_over o on ks s e (k, k, st) a

  charged : (n : ℕ) (go : State → Config) (ks : List StackEntry) (s : State) → s.level ≡ k → StackAt tree ks k k → ((t : State) → t.level ≡ k → Sound tree k (go t)) → Sound tree k (costing n go ks s)
  charged zero go ks s e st x = (e, (k, k, tt, st, omega arith))
  charged (suc n) go ks s e st x = x (record s { units = n }) e

  -- what follows a charge
  pub costs : (go : State → Config) (ks : List StackEntry) (s : State) → s.level ≡ k → StackAt tree ks k k → ((t : State) → t.level ≡ k → Sound tree k (go t)) → Sound tree k (costing s.units go ks s)
  costs go ks s e st x = charged s.units go ks s e st x

  -- after an evaluation
  pub given_sound : (v : Evaluated) (go : Value → State → Config) (ks : List StackEntry) (s : State) → s.level ≡ k → StackAt tree ks k k → ((w : Value) → Sound tree k (go w s)) → Sound tree k (given_step v go ks s)
  given_sound (Gives v) go ks s e st x = x v
  given_sound (Fails f) go ks s e st x = (e, (k, k, refl, st, omega arith))

  pub given_all_sound : (v : EvaluatedAll) (go : List Value → State → Config) (ks : List StackEntry) (s : State) → s.level ≡ k → StackAt tree ks k k → ((ws : List Value) → Sound tree k (go ws s)) → Sound tree k (given_all_step v go ks s)
  given_all_sound (GivesAll vs) go ks s e st x = x vs
  given_all_sound (FailsAll f) go ks s e st x = (e, (k, k, refl, st, omega arith))

  judged : (v : Evaluated) (b : ℕ) (good bad : State → Config) (ks : List StackEntry) (s : State) → s.level ≡ k → StackAt tree ks k k → ((t : State) → t.level ≡ k → Sound tree k (good t)) → ((t : State) → t.level ≡ k → Sound tree k (bad t)) → Sound tree k (judge_step v b good bad ks s)
  judged (Gives v) b good bad ks s e st x y = sound_if (holds v) (good s) (bad (emptied b s)) (λ _. x s e) (λ _. y (emptied b s) e)
  judged (Fails f) b good bad ks s e st x y = (e, (k, k, refl, st, omega arith))

  -- after WHERE
  pub tests : (p : Program) (x : Option Expr) (b : ℕ) (retry : Bool) (good bad : State → Config) (ks : List StackEntry) (s : State) → s.level ≡ k → StackAt tree ks k k → ((t : State) → t.level ≡ k → Sound tree k (good t)) → ((t : State) → t.level ≡ k → Sound tree k (bad t)) → Sound tree k (test_step p x b retry good bad ks s)
  tests p None b retry good bad ks s e st x y = x s e
  tests p (Some w) b retry good bad ks s e st x y = judged (value_now p w retry s) b good bad ks s e st x y
