-- What stays true of a book when its limit is kept, and when its desk is asked for a stop.
use Rattle.std.proofs.Common.{◌≡◌, ℕ, Bool, false, List, Option, Some, None, refl, sym, ◌∙◌, ap, subst, arith}
use Rattle.tf_numbers.specs.Numbers.{Rises}
use Rattle.tf_desk.specs.State.{DeskState, Asks}
use Rattle.tf_desk.proofs.StateLemmas.{bytes_stay, left_stays, passes_then, extends_told, continues_on, asks_continues}
use Rattle.tf_flow.specs.Plan.{PlanValue}
use Rattle.tf_journal.specs.Format.{Held}
use Rattle.tf_machine.specs.Machine.{MachineValue}
use Rattle.tf_model.specs.Plan.{Outline, outline_of}
use Rattle.tf_states.specs.declared.record.Entry.{Entry}
use Rattle.tf_states.specs.declared.state.FlowState.TheVariants as flow
use Rattle.tf_details.specs.Elements.{Contents}
use Rattle.tf_book.specs.Book.{BookValue, flow_state, outline}
use Rattle.tf_book.specs.SessionInvariant.{IsSpoken, HasCause, SessionInvariant, Proceeds, TakesTurn}
use Rattle.tf_book.specs.Sound.{IsSoundBook}
use Rattle.tf_book.specs.Turns.{IsAnswered, IsTurn, IsHaltedTurn, forcing, IsTurnAsked, IsHaltedTurnAsked}
use Rattle.tf_book.specs.declared.faults.Halt.{Halt}
use Rattle.tf_book.specs.declared.faults.Halt.TheVariants as halt
use Rattle.tf_book.specs.declared.turn.Turn.{Turn}
use Rattle.tf_book.proofs.LogLemmas.{off_on, off_asks}
use Rattle.tf_book.proofs.ForceLemmas.{forced_none}
use Rattle.tf_book.proofs.ClosingLemmas.{sound_on}

-- a cause stays one where no count of faults changed
cause_stays : (start mid now : DeskState) (contents : Contents) (plan : PlanValue) (past : List Entry) (failed : Option Entry) (h : Option Halt) → now.disk_faults ≡ mid.disk_faults → now.out_faults ≡ mid.out_faults
    → HasCause contents plan past start mid failed h → HasCause contents plan past start now failed h
cause_stays start mid now contents plan past failed None disk out cause = tt
cause_stays start mid now contents plan past failed (Some halt.Disk) disk out cause = subst (λ (n : ℕ). Rises start.disk_faults n) (sym disk) cause
cause_stays start mid now contents plan past failed (Some halt.Out) disk out cause = subst (λ (n : ℕ). Rises start.out_faults n) (sym out) cause
cause_stays start mid now contents plan past failed (Some (halt.Full size need)) disk out cause = cause
cause_stays start mid now contents plan past failed (Some halt.Memory) disk out cause = tt

module _ {K : Type 0} (state : K → DeskState) where
  limit_keeps : (start b : BookValue K) (l : Option ℕ) → SessionInvariant state start b → SessionInvariant state start (record b { limit = l })
  limit_keeps start b l k = record {
    entries = k.entries;
    recorded = k.recorded;
    held = k.held;
    plan = k.plan;
    quiet = k.quiet;
    volatile = k.volatile;
    continues = k.continues;
    off_disk = k.off_disk;
    text = k.text;
    crash = k.crash;
    exact = k.exact;
    cause = k.cause;
  }

  -- another limit changes nothing of what is kept
  pub keeps_limit : (start old b : BookValue K) (l : Option ℕ) → b ≡ old → SessionInvariant state start old → SessionInvariant state start (record b { limit = l })
  keeps_limit start old b l same k = limit_keeps start b l (subst (λ (x : BookValue K). SessionInvariant state start x) (sym same) k)

  -- nor of what the type keeps
  pub sound_limit : (machine : MachineValue) (kept : List ℕ) (b : BookValue K) (l : Option ℕ) → IsSoundBook state machine kept b → IsSoundBook state machine kept (record b { limit = l })
  sound_limit machine kept b l is = record {
    stands = is.stands;
    plan = is.plan;
    kept_is = is.kept_is;
    held = is.held;
    told = is.told;
    title = is.title;
    sound = is.sound;
    ready = is.ready;
    size = is.size;
    limit = is.limit;
  }

  -- what was kept is kept where a desk was asked
  asked_keeps : (start b : BookValue K) (j : Held K) → j ≡ record b.journal { desk = j.desk } → Asks (state b.journal.desk) (state j.desk)
      → SessionInvariant state start b → SessionInvariant state start (record b { journal = j })
  asked_keeps start b j same asks k = record {
    entries = k.entries;
    recorded = k.recorded;
    held = k.held;
    plan = k.plan;
    quiet = k.quiet;
    volatile = ap (λ (h : Held K). h.volatile) same ∙ k.volatile;
    continues = continues_on k.continues (asks_continues asks);
    off_disk = λ volatile. off_on (k.off_disk volatile) (λ told. extends_told k.continues.extends told) (off_asks asks);
    text = subst (λ (s : Option (List ℕ)). IsSpoken start.quiet (outline_of start.plan) start.past (state start.journal.desk).shown k.entries b.halt s) (sym asks.shown) k.text;
    crash = λ was kept. (let d = k.crash was kept in let told = extends_told k.continues.extends was in record {
      pending = d.pending;
      few = d.few;
      passes = passes_then d.passes (asks.crash told);
      left = λ before image now. d.left before image (left_stays (asks.files told) image now);
    });
    exact = λ was kept unhalted just. bytes_stay (asks.files (extends_told k.continues.extends was)) ∙ k.exact was kept (sym (ap (λ (h : Held K). h.halted) same) ∙ unhalted) just;
    cause = cause_stays (state start.journal.desk) (state b.journal.desk) (state j.desk) b.contents start.plan b.past b.failed b.halt asks.disk_faults asks.out_faults k.cause;
  }

  -- and a book stays sound
  pub sound_asked : (machine : MachineValue) (kept : List ℕ) (b old : BookValue K) (j : Held K) → b ≡ old → old.halt ≡ None → IsSoundBook state machine kept b
      → j ≡ record b.journal { desk = j.desk } → Asks (state b.journal.desk) (state j.desk) → IsSoundBook state machine kept (record b { journal = j })
  sound_asked machine kept b old j is_old sound is same asks =
      sound_on state machine kept b j b.halt is (ap (λ (x : BookValue K). x.halt) is_old ∙ sound) same asks.tells asks.files

  -- asking is a turn in RUNNING
  pub asks_turn : (old b : BookValue K) (j : Held K) → b ≡ old → j ≡ record b.journal { desk = j.desk } → Asks (state b.journal.desk) (state j.desk)
      → flow_state old ≡ flow.Running → TakesTurn state old (record b { journal = j })
  asks_turn old b j is_old same asks running = subst (λ (x : BookValue K). TakesTurn state x (record b { journal = j })) is_old (record {
    plan = refl;
    limit = refl;
    asks = asks.asks;
    turns = asks.turns;
    turned = λ sound was. asks.turned;
    unasked = λ apart. absurd (apart (ap flow_state is_old ∙ running));
    keeps = λ start k. asked_keeps start b j same asks k;
  })

  -- a turn in another state of the flow, or of a halted book, begins with no question
  pub unasked_turn : (old : BookValue K) → (old.halt ≡ None → flow_state old ≡ flow.Running → ⊥) → TakesTurn state old old
  unasked_turn old never = record {
    plan = refl;
    limit = refl;
    asks = omega arith;
    turns = omega arith;
    turned = λ sound running. absurd (never sound running);
    unasked = λ apart. record { asks = refl; turns = refl };
    keeps = λ start k. k;
  }

  -- what is recorded after the question belongs to the turn
  pub turn_on : {old mid new : BookValue K} → TakesTurn state old mid → Proceeds state mid new → TakesTurn state old new
  turn_on {old} {mid} {new} a b = record {
    plan = b.plan ∙ a.plan;
    limit = b.limit ∙ a.limit;
    asks = omega (arith, a.asks, b.unasked.asks);
    turns = omega (arith, a.turns, b.unasked.turns);
    turned = λ sound running. subst (λ (n : ℕ). Rises (state old.journal.desk).turns n) (sym b.unasked.turns) (a.turned sound running);
    unasked = λ apart. record { asks = b.unasked.asks ∙ (a.unasked apart).asks; turns = b.unasked.turns ∙ (a.unasked apart).turns };
    keeps = λ start k. b.keeps start (a.keeps start k);
  }

-- a turn after the desk was asked
pub turn_asked : {K : Type 0} (old mid : BookValue K) (hand : ℕ) (stop : Bool) (asks_then asks_mid asks_now : ℕ) (after : List Entry) (answer : Turn)
    → mid ≡ record old { journal = record old.journal { desk = mid.journal.desk } } → IsAnswered stop asks_then asks_mid → asks_now ≡ asks_mid
    → IsTurn (outline mid) hand stop mid.limit mid.past after answer → IsTurnAsked (outline old) hand old.limit asks_then asks_now old.past after answer
turn_asked {K} old mid hand stop asks_then asks_mid asks_now after answer same answered stays is = record {
  stop = stop;
  answered = subst (λ (n : ℕ). IsAnswered stop asks_then n) (sym stays) answered;
  is = subst (λ (b : BookValue K). IsTurn (outline b) hand stop b.limit b.past after answer) same is;
}

-- and one that was halted
pub halted_asked : {K : Type 0} (old mid : BookValue K) (hand : ℕ) (stop : Bool) (asks_then asks_mid asks_now : ℕ) (after : List Entry)
    → mid ≡ record old { journal = record old.journal { desk = mid.journal.desk } } → IsAnswered stop asks_then asks_mid → asks_now ≡ asks_mid
    → IsHaltedTurn (outline mid) hand stop mid.limit mid.past after → IsHaltedTurnAsked (outline old) hand old.limit asks_then asks_now old.past after
halted_asked {K} old mid hand stop asks_then asks_mid asks_now after same answered stays is = record {
  stop = stop;
  answered = subst (λ (n : ℕ). IsAnswered stop asks_then n) (sym stays) answered;
  is = subst (λ (b : BookValue K). IsHaltedTurn (outline b) hand stop b.limit b.past after) same is;
}

-- a turn of a book that was halted before
pub never_asked : (plan : Outline) (hand : ℕ) (limit : Option ℕ) (asks : ℕ) (past : List Entry) → IsHaltedTurnAsked plan hand limit asks asks past past
never_asked plan hand limit asks past = record { stop = false; answered = refl; is = forcing (forced_none plan hand false limit past) }
