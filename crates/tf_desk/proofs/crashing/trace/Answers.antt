use Rattle.std.proofs.Common.{◌≡◌, ℕ, ◌+◌, ◌-◌, ◌≤◌, ◌<◌, List, length, get_or, take, drop, reverse, sym, ◌∙◌, ap, subst, arith}
use Rattle.std.specs.List.{sum_by}
use Rattle.std.proofs.lemmas.List.Sums.{sum_by_more, sum_by-take-le}
use Rattle.tf_desk.specs.Acts.{Act}
use Rattle.tf_desk.specs.declared.past.Noted.{Noted}
use Rattle.tf_desk.specs.MemoryDesk.{acts_of, written_count}
use Rattle.tf_desk.specs.Crashed.{IsTraced, IsActOf}
use Rattle.tf_desk.proofs.LogLemmas.{act_next}
use Rattle.tf_desk.proofs.crashing.trace.Goals as goal

pub loop-entry-preserved : goal.loop-entry-preserved
loop-entry-preserved c =
    let i = c.loop-entry.entry-index in
    let log = c.args.log.now in
    let tape = c.args.tape.now in
    let entry = c.entry-item.result in
    let so_far = c.loop-entry.wrote in
    let had = c.loop-entry.invariant in
    let inside : i < length log = omega arith in
    let count : c.wrote_of.result ≡ written_count (get_or log i entry) = c.wrote_of.ensures ∙ ap written_count c.entry-item.is in
    let wrote : so_far + c.wrote_of.result ≡ sum_by written_count (take (i + 1) log) = omega (arith, had.wrote, count, sum_by_more written_count log i entry inside) in
    let fits : sum_by written_count (take i log) + written_count (get_or log i entry) ≤ length tape = omega (arith, sum_by_more written_count log i entry inside, sum_by-take-le written_count log (i + 1), c.requires) in
    record {
      wrote = wrote;
      traced = λ shown.
          let next = act_next log i entry tape shown inside fits in
          let before : IsTraced (acts_of (reverse (take i log)) (take (sum_by written_count (take i log)) tape) next.1) c.args.name.now c.loop-entry.traced =
          subst (λ (n : ℕ). IsTraced (acts_of (reverse (take i log)) (take n tape) next.1) c.args.name.now c.loop-entry.traced) had.wrote (had.traced next.1) in
          let many : written_count (get_or log i entry) ≡ (so_far + c.wrote_of.result) - so_far = omega (arith, count) in
          let act : IsActOf entry (take ((so_far + c.wrote_of.result) - so_far) (drop so_far tape)) next.0 =
          subst (λ (e : Noted). IsActOf e (take ((so_far + c.wrote_of.result) - so_far) (drop so_far tape)) next.0) (sym c.entry-item.is)
          (subst (λ (n : ℕ). IsActOf (get_or log i entry) (take ((so_far + c.wrote_of.result) - so_far) (drop n tape)) next.0) (sym had.wrote)
          (subst (λ (n : ℕ). IsActOf (get_or log i entry) (take n (drop (sum_by written_count (take i log)) tape)) next.0) many next.3)) in
          let after = c.in_ok-follow.ensures (acts_of (reverse (take i log)) (take (sum_by written_count (take i log)) tape) next.1) next.0 before act in
          subst (λ (n : ℕ). IsTraced (acts_of (reverse (take (i + 1) log)) (take n tape) shown) c.args.name.now c.follow.new.self) (sym wrote)
          (subst (λ (p : List Act). IsTraced p c.args.name.now c.follow.new.self) (sym next.2) after);
    }
