-- The hands that were hired are those that were wanted, and keep their relation.
use Rattle.std.proofs.Common.{◌≡◌, ℕ, List, [], ◌++◌, length, map, Option, Some, None, Vec, Global, refl, sym, ap, ◌∙◌, subst, vec_len, arith}
use Rattle.std.specs.Prelude.{option_map}
use Rattle.std.specs.List.{AllByRecursion}
use Rattle.std.proofs.lemmas.List.{length-map}
use Rattle.tf_actions.specs.declared.orders.Order.{Order}
use Rattle.tf_actions.specs.declared.outcomes.Outcome.{Outcome}
use Rattle.tf_ports.specs.Ports.{wanted, AreWanted, gives_by, AreFresh, IsFresh, GivenBack, CrewTold, hired_for, gave_back}
use Rattle.tf_model.specs.Plan.{outline_of}
use Rattle.tf_desk.specs.State.{DeskState}
use Rattle.tf_flow.specs.Plan.{PlanTree, PlanValue}
use Rattle.tf_states.specs.declared.record.Entry.{Entry}
use Rattle.tf_ports.specs.declared.crews.Address.{Address}
use Rattle.tf_ports.specs.declared.crews.Hands.{Hands}
use Rattle.tf_ports.specs.declared.crews.Hands.TheVariants as hands
use Rattle.tf_ports.specs.declared.crews.Want.{Want}
use Rattle.tf_ports.specs.declared.crews.Want.TheVariants as want
use Rattle.tf_details.specs.Elements.{Element, Contents}
use Rattle.tf_commands.specs.Books.{Promised, RunsAnew, overfull, ran, Hires, AreAllBack, AreFreshBack, HasStopped}
use Rattle.tf_commands.proofs.OrderLemmas.{given_back}
use Rattle.tf_commands.specs.Behaviour.{Tried}
use Rattle.tf_commands.specs.declared.running.Request.{Request}

count_of_near : (H F : Type 0) (w : Want) (near : Vec H Global) → AreWanted {H = H} {F = F} w (hands.Local near) → vec_len near ≡ wanted w
count_of_near H F (want.Local count) near are = are
count_of_near H F (want.Remote addresses) near are = absurd are

gives_of_near : (H F : Type 0) (w : Want) (near : Vec H Global) (by far : Order → Outcome → Type 0) → AreWanted {H = H} {F = F} w (hands.Local near) → by ≡ gives_by by far w
gives_of_near H F (want.Local count) near by far are = refl
gives_of_near H F (want.Remote addresses) near by far are = absurd are

count_of_far : (H F : Type 0) (w : Want) (away : Vec F Global) → AreWanted {H = H} {F = F} w (hands.Remote away) → vec_len away ≡ wanted w
count_of_far H F (want.Local count) away are = absurd are
count_of_far H F (want.Remote addresses) away are = are

gives_of_far : (H F : Type 0) (w : Want) (away : Vec F Global) (by far : Order → Outcome → Type 0) → AreWanted {H = H} {F = F} w (hands.Remote away) → far ≡ gives_by by far w
gives_of_far H F (want.Local count) away by far are = absurd are
gives_of_far H F (want.Remote addresses) away by far are = refl

-- what was hired may run the flow: as many hands as are wanted
pub near_count : {H F : Type 0} (w : Want) (h : Hands H F) (near : Vec H Global) → h ≡ hands.Local near → AreWanted w h → vec_len near ≡ wanted w
near_count {H} {F} w h near is are = count_of_near H F w near (subst (λ (k : Hands H F). AreWanted w k) is are)

pub far_count : {H F : Type 0} (w : Want) (h : Hands H F) (away : Vec F Global) → h ≡ hands.Remote away → AreWanted w h → vec_len away ≡ wanted w
far_count {H} {F} w h away is are = count_of_far H F w away (subst (λ (k : Hands H F). AreWanted w k) is are)

-- which were given no order
pub near_fresh : {H F : Type 0} (near_did : H → Option (List Order)) (far_did : F → Option (List Order)) (h : Hands H F) (near : Vec H Global) → h ≡ hands.Local near → AreFresh near_did far_did h
    → AllByRecursion IsFresh (map near_did near.items)
near_fresh {H} {F} near_did far_did h near is are = subst (λ (k : Hands H F). AreFresh near_did far_did k) is are

pub far_fresh : {H F : Type 0} (near_did : H → Option (List Order)) (far_did : F → Option (List Order)) (h : Hands H F) (away : Vec F Global) → h ≡ hands.Remote away → AreFresh near_did far_did h
    → AllByRecursion IsFresh (map far_did away.items)
far_fresh {H} {F} near_did far_did h away is are = subst (λ (k : Hands H F). AreFresh near_did far_did k) is are

-- and hands that ask workers weren't hired where hands of this process were wanted
pub none_far : {H F : Type 0} (count : ℕ) (h : Hands H F) (away : Vec F Global) → h ≡ hands.Remote away → AreWanted (want.Local count) h → ⊥
none_far {H} {F} count h away is are = subst (λ (k : Hands H F). AreWanted (want.Local count) k) is are

near_gives : {H F : Type 0} (w : Want) (h : Hands H F) (near : Vec H Global) (by far : Order → Outcome → Type 0) → h ≡ hands.Local near → AreWanted w h → by ≡ gives_by by far w
near_gives {H} {F} w h near by far is are = gives_of_near H F w near by far (subst (λ (k : Hands H F). AreWanted w k) is are)

far_gives : {H F : Type 0} (w : Want) (h : Hands H F) (away : Vec F Global) (by far : Order → Outcome → Type 0) → h ≡ hands.Remote away → AreWanted w h → far ≡ gives_by by far w
far_gives {H} {F} w h away by far is are = gives_of_far H F w away by far (subst (λ (k : Hands H F). AreWanted w k) is are)

-- ---- hands that are given back

-- what a crew tells of hands that were given back, by what it told of those before
abbrev pub told_back : GivenBack → List (Option (List Order)) → GivenBack
told_back told did = option_map (λ (earlier : List (Option (List Order))). did) told

all_told : (w : Want) (told : GivenBack) (did : List (Option (List Order))) → length did ≡ wanted w → AreAllBack w (told_back told did)
all_told w None did long = tt
all_told w (Some earlier) did long = long

-- the hands that were wanted were hired and given back, by what the crew told at first, after the hiring, and at last
pub hires_back : (w : Want) (crew mid last : CrewTold) (did : List (Option (List Order))) → mid ≡ hired_for crew w → last ≡ gave_back mid did → length did ≡ wanted w → Hires w crew last
hires_back w crew mid last did hired gave long = record {
  hired = ap (λ (told : CrewTold). told.hired) gave ∙ ap (λ (told : CrewTold). told.hired) hired;
  back = subst (AreAllBack w) (sym (ap (λ (told : CrewTold). told.back) gave)) (all_told w mid.back did long);
}

-- as many as came
pub long_back : {P : Type 0} (did : P → Option (List Order)) (hands : Vec P Global) (count number : ℕ) → vec_len hands ≡ count → count ≡ number → length (map did hands.items) ≡ number
long_back did hands count number long all = let mapped = length-map hands.items did in omega (arith, mapped, hands.ok.0, long, all)

-- those that are told
promised_back : {gives : Order → Outcome → Type 0} {request : Request} {asked : Type 0} {did : List (Option (List Order))} (told : GivenBack)
    {name : List ℕ} {contents : Contents} {plan : PlanValue} {before : List Entry} {entry now : DeskState} {status : ℕ}
    → Promised gives request asked (Some did) name contents plan before entry now status → Promised gives request asked (told_back told did) name contents plan before entry now status
promised_back {did = did} told {plan = plan} {before} {status = status} p = record {
  entries = p.entries;
  stop = p.stop;
  closing = p.closing;
  ran = p.ran;
  orders_given = given_back (HasStopped status) (outline_of plan) before (p.entries ++ before) told did p.orders_given;
  lasts = p.lasts;
}

tried_back : {gives : Order → Outcome → Type 0} {w : Want} {asked : Type 0} {did : List (Option (List Order))} (told : GivenBack) {tree : PlanTree} {shown now : Option (List ℕ)} {status : ℕ}
    → Tried gives w asked (Some did) tree shown now status → Tried gives w asked (told_back told did) tree shown now status
tried_back {did = did} told {status = status} t = record {
  plan = t.plan;
  same = t.same;
  entries = t.entries;
  stop = t.stop;
  closing = t.closing;
  ran = t.ran;
  orders_given = given_back (HasStopped status) (outline_of t.plan) [] (t.entries ++ []) told did t.orders_given;
}

-- what is promised of a run by hands that were hired is promised of one by the hands that were wanted, which were given back
pub promised_near : {H F : Type 0} {by : Order → Outcome → Type 0} (far : Order → Outcome → Type 0) (request : Request) {asked : Type 0} {did : List (Option (List Order))} (mid last : CrewTold)
    {name : List ℕ} {contents : Contents} {plan : PlanValue} {before : List Entry} {entry now : DeskState} {status : ℕ}
    (h : Hands H F) (near : Vec H Global) → h ≡ hands.Local near → AreWanted request.want h → last ≡ gave_back mid did
    → Promised by request asked (Some did) name contents plan before entry now status
    → Promised (gives_by by far request.want) request asked last.back name contents plan before entry now status
promised_near {H} {F} {by} far request {asked} {did} mid last {name} {contents} {plan} {before} {entry} {now} {status} h near is are gave p =
    subst (λ (r : Order → Outcome → Type 0). Promised r request asked last.back name contents plan before entry now status) (near_gives request.want h near by far is are)
    (subst (λ (b : GivenBack). Promised by request asked b name contents plan before entry now status) (sym (ap (λ (told : CrewTold). told.back) gave)) (promised_back mid.back p))

pub promised_far : {H F : Type 0} {far : Order → Outcome → Type 0} (by : Order → Outcome → Type 0) (request : Request) {asked : Type 0} {did : List (Option (List Order))} (mid last : CrewTold)
    {name : List ℕ} {contents : Contents} {plan : PlanValue} {before : List Entry} {entry now : DeskState} {status : ℕ}
    (h : Hands H F) (away : Vec F Global) → h ≡ hands.Remote away → AreWanted request.want h → last ≡ gave_back mid did
    → Promised far request asked (Some did) name contents plan before entry now status
    → Promised (gives_by by far request.want) request asked last.back name contents plan before entry now status
promised_far {H} {F} {far} by request {asked} {did} mid last {name} {contents} {plan} {before} {entry} {now} {status} h away is are gave p =
    subst (λ (r : Order → Outcome → Type 0). Promised r request asked last.back name contents plan before entry now status) (far_gives request.want h away by far is are)
    (subst (λ (b : GivenBack). Promised far request asked b name contents plan before entry now status) (sym (ap (λ (told : CrewTold). told.back) gave)) (promised_back mid.back p))

-- and so it is of a run as a new detail
fresh_told : (told : GivenBack) (did : List (Option (List Order))) → AllByRecursion IsFresh did → AreFreshBack (told_back told did)
fresh_told None did fresh = tt
fresh_told (Some earlier) did fresh = fresh

anew_back : {gives : Order → Outcome → Type 0} {request : Request} {asked : Type 0} {did : List (Option (List Order))} (told : GivenBack)
    {name : List ℕ} {elements : List Element} {plan : PlanValue} {entry now : DeskState} {status : ℕ}
    → RunsAnew gives request asked (Some did) name elements plan entry now status → RunsAnew gives request asked (told_back told did) name elements plan entry now status
anew_back {did = did} told (overfull size need fresh full refuses) = overfull size need (fresh_told told did fresh) full refuses
anew_back told (ran promised) = ran (promised_back told promised)

pub anew_near : {H F : Type 0} {by : Order → Outcome → Type 0} (far : Order → Outcome → Type 0) (request : Request) {asked : Type 0} {did : List (Option (List Order))} (mid last : CrewTold)
    {name : List ℕ} {elements : List Element} {plan : PlanValue} {entry now : DeskState} {status : ℕ}
    (h : Hands H F) (near : Vec H Global) → h ≡ hands.Local near → AreWanted request.want h → last ≡ gave_back mid did
    → RunsAnew by request asked (Some did) name elements plan entry now status
    → RunsAnew (gives_by by far request.want) request asked last.back name elements plan entry now status
anew_near {H} {F} {by} far request {asked} {did} mid last {name} {elements} {plan} {entry} {now} {status} h near is are gave a =
    subst (λ (r : Order → Outcome → Type 0). RunsAnew r request asked last.back name elements plan entry now status) (near_gives request.want h near by far is are)
    (subst (λ (b : GivenBack). RunsAnew by request asked b name elements plan entry now status) (sym (ap (λ (told : CrewTold). told.back) gave)) (anew_back mid.back a))

pub anew_far : {H F : Type 0} {far : Order → Outcome → Type 0} (by : Order → Outcome → Type 0) (request : Request) {asked : Type 0} {did : List (Option (List Order))} (mid last : CrewTold)
    {name : List ℕ} {elements : List Element} {plan : PlanValue} {entry now : DeskState} {status : ℕ}
    (h : Hands H F) (away : Vec F Global) → h ≡ hands.Remote away → AreWanted request.want h → last ≡ gave_back mid did
    → RunsAnew far request asked (Some did) name elements plan entry now status
    → RunsAnew (gives_by by far request.want) request asked last.back name elements plan entry now status
anew_far {H} {F} {far} by request {asked} {did} mid last {name} {elements} {plan} {entry} {now} {status} h away is are gave a =
    subst (λ (r : Order → Outcome → Type 0). RunsAnew r request asked last.back name elements plan entry now status) (far_gives request.want h away by far is are)
    (subst (λ (b : GivenBack). RunsAnew far request asked b name elements plan entry now status) (sym (ap (λ (told : CrewTold). told.back) gave)) (anew_back mid.back a))

-- and so it is of a trial
pub tried_near : {H F : Type 0} {by : Order → Outcome → Type 0} (far : Order → Outcome → Type 0) (w : Want) {asked : Type 0} {did : List (Option (List Order))} (mid last : CrewTold)
    {tree : PlanTree} {shown now : Option (List ℕ)} {status : ℕ}
    (h : Hands H F) (near : Vec H Global) → h ≡ hands.Local near → AreWanted w h → last ≡ gave_back mid did → Tried by w asked (Some did) tree shown now status
    → Tried (gives_by by far w) w asked last.back tree shown now status
tried_near {H} {F} {by} far w {asked} {did} mid last {tree} {shown} {now} {status} h near is are gave t =
    subst (λ (r : Order → Outcome → Type 0). Tried r w asked last.back tree shown now status) (near_gives w h near by far is are)
    (subst (λ (b : GivenBack). Tried by w asked b tree shown now status) (sym (ap (λ (told : CrewTold). told.back) gave)) (tried_back mid.back t))

pub tried_far : {H F : Type 0} {far : Order → Outcome → Type 0} (by : Order → Outcome → Type 0) (w : Want) {asked : Type 0} {did : List (Option (List Order))} (mid last : CrewTold)
    {tree : PlanTree} {shown now : Option (List ℕ)} {status : ℕ}
    (h : Hands H F) (away : Vec F Global) → h ≡ hands.Remote away → AreWanted w h → last ≡ gave_back mid did → Tried far w asked (Some did) tree shown now status
    → Tried (gives_by by far w) w asked last.back tree shown now status
tried_far {H} {F} {far} by w {asked} {did} mid last {tree} {shown} {now} {status} h away is are gave t =
    subst (λ (r : Order → Outcome → Type 0). Tried r w asked last.back tree shown now status) (far_gives w h away by far is are)
    (subst (λ (b : GivenBack). Tried far w asked b tree shown now status) (sym (ap (λ (told : CrewTold). told.back) gave)) (tried_back mid.back t))

-- the relation of hands of this process, and of those that ask workers, by what is wanted
pub local_gives : (w : Want) (count : ℕ) (by far : Order → Outcome → Type 0) → w ≡ want.Local count → by ≡ gives_by by far w
local_gives (want.Local other) count by far is = refl
local_gives (want.Remote addresses) count by far is = absurd (cc)

pub remote_gives : (w : Want) (addresses : List Address) (by far : Order → Outcome → Type 0) → w ≡ want.Remote addresses → far ≡ gives_by by far w
remote_gives (want.Local count) addresses by far is = absurd (cc)
remote_gives (want.Remote other) addresses by far is = refl
