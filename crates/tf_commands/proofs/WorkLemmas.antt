-- The lines of a worker's sessions.
use Rattle.std.proofs.Common.{◌≡◌, ◌≢◌, ℕ, ◌+◌, ◌<◌, ◌≤◌, List, [], ◌∷◌, ◌++◌, length, take, get_or, Option, Some, None, inl, inr, refl, sym, ap, ◌∙◌, subst, arith, append_assoc, append-nil, length-append, map, Result, Ok, Err}
use Rattle.std.specs.Prelude.{◌⊎◌, IsTrue, OnOk, IfErr, option_map}
use Rattle.std.specs.List.{AllByRecursion}
use Rattle.std.proofs.Math.Seq.{take-append-add}
use Rattle.std.proofs.lemmas.List.{map-append, length-map, take_more}
use Rattle.tf_actions.specs.Gives.{told_with}
use Rattle.tf_actions.specs.declared.orders.Order.{Order}
use Rattle.tf_actions.specs.declared.outcomes.Outcome.{Outcome}
use Rattle.tf_ports.specs.Ports.{SeenLink, DoorTold, GivenBack, IsFresh, hired_for, gave_back, told_with_all, opened_at, gave_link, took_back, CrewTold}
use Rattle.tf_ports.specs.declared.crews.Address.{Address}
use Rattle.tf_ports.specs.declared.crews.Want.TheVariants as want
use Rattle.tf_workers.specs.Session.{Serves}
use Rattle.tf_desk.specs.Crash.{shown_with, ShowsPrefix}
use Rattle.tf_desk.specs.State.{DeskState, Says}
use Rattle.tf_sessions.specs.declared.incoming.ServeEnd.{ServeEnd}
use Rattle.tf_sessions.specs.declared.incoming.ServeEnd.TheVariants as end
use Rattle.tf_commands.specs.Messages.{IsGivenBack, HiresHere, session_line, session_lines, IsOver, Served, ends_of, seen_with, AreServed, GivesLinks, SaysSession, CutsSession, unsaid_whole, unsaid_part, SaysSessions, SaysNext, StopsNext, ServesAll, Works, HasStopCause, HasServeCause, exhausted_next, no_next_link, unsaid_next, all_served, exhausted, no_link, cut_short, unhired_memory, unhired, unopened_memory, unopened, worked}
use Rattle.tf_commands.specs.Books.{OnlySays, Hires, AreAllBack}
use Rattle.tf_report.specs.declared.statuses.TheConstants.{SUCCEEDED, UNHIRED, OUT_OF_MEMORY, UNSAID}
use Rattle.tf_report.proofs.ClosingLemmas.{closes_status}
use Rattle.tf_report.specs.Closing.{cannot_hire, cannot_listen}

-- ---- texts

shown_on : (shown : Option (List ℕ)) (first second : List ℕ) → shown_with (shown_with shown first) second ≡ shown_with shown (first ++ second)
shown_on None first second = refl
shown_on (Some text) first second = ap Some (append_assoc text first second)

shown_more : (before now after : Option (List ℕ)) (first second : List ℕ) → now ≡ shown_with before first → after ≡ shown_with now second → after ≡ shown_with before (first ++ second)
shown_more before now after first second is more = more ∙ ap (λ (shown : Option (List ℕ)). shown_with shown second) is ∙ shown_on before first second

prefix_more : (before now after : Option (List ℕ)) (first second : List ℕ) → now ≡ shown_with before first → ShowsPrefix now second after → ShowsPrefix before (first ++ second) after
prefix_more before now after first second is more = record {
  count = length first + more.count;
  prefix = shown_more before now after first (take more.count second) is more.prefix ∙ ap (shown_with before) (sym (take-append-add first second more.count));
}

shown_nothing : (shown : Option (List ℕ)) → shown ≡ shown_with shown []
shown_nothing None = refl
shown_nothing (Some text) = ap Some (sym (append-nil text))

-- ---- answers

pub on_ok : {A E : Type 0} (r : Result A E) (P Q : Type 0) → (P → Q) → OnOk r P → OnOk r Q
on_ok (Ok x) P Q on had = on had
on_ok (Err e) P Q on had = tt

pub if_err : {A E : Type 0} (r : Result A E) (P Q : E → Type 0) → ((e : E) → P e → Q e) → IfErr r P → IfErr r Q
if_err (Ok x) P Q on had = tt
if_err (Err e) P Q on had = on e had

-- ---- lines

lines_more : (number : ℕ) (ends : List ServeEnd) (how : ServeEnd) → session_lines number (ends ++ how ∷ []) ≡ session_lines number ends ++ session_line (number + length ends) how
lines_more number [] how = append-nil (session_line number how) ∙ ap (λ (n : ℕ). session_line n how) (let same : number ≡ number + 0 = omega arith in same)
lines_more number (first ∷ ends) how =
    ap (λ (rest : List ℕ). session_line number first ++ rest) (lines_more (number + 1) ends how)
    ∙ sym (append_assoc (session_line number first) (session_lines (number + 1) ends) (session_line (number + 1 + length ends) how))
    ∙ ap (λ (n : ℕ). (session_line number first ++ session_lines (number + 1) ends) ++ session_line n how) (let same : number + 1 + length ends ≡ number + length (first ∷ ends) = omega arith in same)

over_more : (ends : List ServeEnd) (how : ServeEnd) → AllByRecursion IsOver ends → IsOver how → AllByRecursion IsOver (ends ++ how ∷ [])
over_more [] how over one = (one, tt)
over_more (first ∷ ends) how over one = (over.0, over_more ends how over.1 one)

pub length_more : (ends : List ServeEnd) (how : ServeEnd) → length (ends ++ how ∷ []) ≡ length ends + 1
length_more ends how = length-append ends (how ∷ [])

-- no session so far
pub says_none : (shown : Option (List ℕ)) → SaysSessions shown shown []
says_none shown = record { over = tt; said = shown_nothing shown }

-- the line of the next session
next_line : (before : Option (List ℕ)) (number : ℕ) (ends : List ServeEnd) (how : ServeEnd) → length ends ≡ number → session_lines 1 ends ++ session_line (number + 1) how ≡ session_lines 1 (ends ++ how ∷ [])
next_line before number ends how long =
    let same : number + 1 ≡ 1 + length ends = omega (arith, long) in
    ap (λ (n : ℕ). session_lines 1 ends ++ session_line n how) same ∙ sym (lines_more 1 ends how)

-- one session more
says_more : (before now after : Option (List ℕ)) (number : ℕ) (ends : List ServeEnd) (how : ServeEnd) → length ends ≡ number → SaysSessions before now ends → SaysSession now after (number + 1) how → SaysSessions before after (ends ++ how ∷ [])
says_more before now after number ends how long says next = record {
  over = over_more ends how says.over next.over;
  said = shown_more before now after (session_lines 1 ends) (session_line (number + 1) how) says.said next.said ∙ ap (shown_with before) (next_line before number ends how long);
}

-- ---- links and hands

served_more : (gives : Order → Outcome → Type 0) (did now after : Option (List Order)) (served : List Served) (session : Served) → AreServed gives did served now → session.did ≡ after
    → Serves gives (seen_with session.first now) (seen_with session.last after) session.how → AreServed gives did (served ++ session ∷ []) after
served_more gives did now after [] session are same serves = (
  subst (λ (had : Option (List Order)). Serves gives (seen_with session.first had) (seen_with session.last session.did) session.how) are
      (subst (λ (has : Option (List Order)). Serves gives (seen_with session.first now) (seen_with session.last has) session.how) (sym same) serves),
  sym same,
)
served_more gives did now after (first ∷ others) session are same serves = (are.0, served_more gives first.did now after others session are.1 same serves)

told_on : {X : Type 0} (told : Option (List X)) (xs : List X) (x : X) → told_with (told_with_all told xs) x ≡ told_with_all told (xs ++ x ∷ [])
told_on None xs x = refl
told_on (Some had) xs x = ap Some (append_assoc had xs (x ∷ []))

-- behind the first few of the addresses the next one was dialled
pub dialled_next : (addresses : List Address) (i : ℕ) (one : Address) (before now after : Option (List Address)) → i < length addresses → one ≡ get_or addresses i one
    → now ≡ told_with_all before (take i addresses) → after ≡ told_with now one → after ≡ told_with_all before (take (i + 1) addresses)
dialled_next addresses i one before now after within is told next =
    let more : take (i + 1) addresses ≡ take i addresses ++ one ∷ [] = take_more addresses i one within ∙ ap (λ (a : Address). take i addresses ++ a ∷ []) (sym is) in
    next ∙ ap (λ (o : Option (List Address)). told_with o one) told ∙ told_on before (take i addresses) one ∙ ap (told_with_all before) (sym more)

told_two : {X : Type 0} (told : Option (List X)) (xs ys : List X) → told_with_all (told_with_all told xs) ys ≡ told_with_all told (xs ++ ys)
told_two None xs ys = refl
told_two (Some had) xs ys = ap Some (append_assoc had xs ys)

told_one : {X : Type 0} (told : Option (List X)) (x : X) → told_with told x ≡ told_with_all told (x ∷ [])
told_one None x = refl
told_one (Some had) x = refl

told_nothing : {X : Type 0} (told : Option (List X)) → told ≡ told_with_all told []
told_nothing None = refl
told_nothing (Some had) = ap Some (sym (append-nil had))

-- no link more
pub links_none : (door : DoorTold) → GivesLinks [] [] [] door door
links_none door = record { opened = refl; given = told_nothing door.given; returned = told_nothing door.returned }

-- what was seen of the links of these sessions first, or last
abbrev firsts : List Served → List SeenLink
firsts served = map (λ session. session.first) served

abbrev lasts : List Served → List SeenLink
lasts served = map (λ session. session.last) served

-- one session more
links_more : (served : List Served) (session : Served) (old mid new : DoorTold) → GivesLinks served [] [] old mid → new ≡ took_back (gave_link mid session.first) session.last → GivesLinks (served ++ session ∷ []) [] [] old new
links_more served session old mid new links is = record {
  opened = ap (λ (door : DoorTold). door.opened) is ∙ links.opened;
  given = ap (λ (door : DoorTold). door.given) is ∙ ap (λ (told : Option (List SeenLink)). told_with told session.first) (links.given ∙ ap (told_with_all old.given) (append-nil (firsts served)))
      ∙ told_on old.given (firsts served) session.first ∙ ap (told_with_all old.given) (sym (map-append (λ (one : Served). one.first) served (session ∷ [])) ∙ sym (append-nil (firsts (served ++ session ∷ []))));
  returned = ap (λ (door : DoorTold). door.returned) is ∙ ap (λ (told : Option (List SeenLink)). told_with told session.last) (links.returned ∙ ap (told_with_all old.returned) (append-nil (lasts served)))
      ∙ told_on old.returned (lasts served) session.last ∙ ap (told_with_all old.returned) (sym (map-append (λ (one : Served). one.last) served (session ∷ [])) ∙ sym (append-nil (lasts (served ++ session ∷ []))));
}

-- some links more, of no session
links_besides : (served : List Served) (more back : List SeenLink) (old mid new : DoorTold) → GivesLinks served [] [] old mid → GivesLinks [] more back mid new → GivesLinks served more back old new
links_besides served more back old mid new links besides = record {
  opened = besides.opened ∙ links.opened;
  given = besides.given ∙ ap (λ (told : Option (List SeenLink)). told_with_all told more) (links.given ∙ ap (told_with_all old.given) (append-nil (firsts served))) ∙ told_two old.given (firsts served) more;
  returned = besides.returned ∙ ap (λ (told : Option (List SeenLink)). told_with_all told back) (links.returned ∙ ap (told_with_all old.returned) (append-nil (lasts served))) ∙ told_two old.returned (lasts served) back;
}

-- a link that was given, and not back
pub link_besides : (first : SeenLink) (old new : DoorTold) → new ≡ gave_link old first → GivesLinks [] (first ∷ []) [] old new
link_besides first old new is = record {
  opened = ap (λ (door : DoorTold). door.opened) is;
  given = ap (λ (door : DoorTold). door.given) is ∙ told_one old.given first;
  returned = ap (λ (door : DoorTold). door.returned) is ∙ told_nothing old.returned;
}

-- a link that was given, and then back
pub link_and_back : (first last : SeenLink) (old new : DoorTold) → new ≡ took_back (gave_link old first) last → GivesLinks [] (first ∷ []) (last ∷ []) old new
link_and_back first last old new is = record {
  opened = ap (λ (door : DoorTold). door.opened) is;
  given = ap (λ (door : DoorTold). door.given) is ∙ told_one old.given first;
  returned = ap (λ (door : DoorTold). door.returned) is ∙ told_one old.returned last;
}

-- ---- the sessions so far

-- so many sessions were served, and their lines were said
pub record HasServed (gives : Order → Outcome → Type 0) (did now_did : Option (List Order)) (old new : DoorTold) (before now : Option (List ℕ)) (number : ℕ) : Type 0 where
  pub served : List Served
  pub long : length served ≡ number
  pub are : AreServed gives did served now_did
  pub links : GivesLinks served [] [] old new
  pub says : SaysSessions before now (ends_of served)

pub served_none : (gives : Order → Outcome → Type 0) (did : Option (List Order)) (door : DoorTold) (shown : Option (List ℕ)) → HasServed gives did did door door shown shown 0
served_none gives did door shown = record { served = []; long = refl; are = refl; links = links_none door; says = says_none shown }

ends_more : (served : List Served) (session : Served) → ends_of (served ++ session ∷ []) ≡ ends_of served ++ session.how ∷ []
ends_more served session = map-append (λ (one : Served). one.how) served (session ∷ [])

ends_long : (served : List Served) → length (ends_of served) ≡ length served
ends_long served = length-map served (λ (one : Served). one.how)

pub serves_more : (gives : Order → Outcome → Type 0) (did now_did later_did : Option (List Order)) (old mid new : DoorTold) (before now after : Option (List ℕ)) (number : ℕ)
    → HasServed gives did now_did old mid before now number → SaysNext gives now_did later_did mid new now after (number + 1) → HasServed gives did later_did old new before after (number + 1)
serves_more gives did now_did later_did old mid new before now after number had next =
    let session = next.session in record {
      served = had.served ++ session ∷ [];
      long = length-append had.served (session ∷ []) ∙ ap (λ (n : ℕ). n + 1) had.long;
      are = served_more gives did now_did later_did had.served session had.are next.serves.last next.serves.serves;
      links = links_more had.served session old mid new had.links next.serves.links;
      says = subst (SaysSessions before after) (sym (ends_more had.served session)) (says_more before now after number (ends_of had.served) session.how (ends_long had.served ∙ had.long) had.says next.says);
    }

-- no session more
pub serves_so_far : (gives : Order → Outcome → Type 0) (did now_did later_did : Option (List Order)) (old mid new : DoorTold) (before now after : Option (List ℕ)) (number sessions status : ℕ)
    → HasServed gives did now_did old mid before now number → number < sessions → StopsNext gives now_did later_did mid new now after (number + 1) status → ServesAll gives did later_did old new before after sessions status
serves_so_far gives did now_did later_did old mid new before now after number sessions status had few (exhausted_next is same more back one less besides links) =
    exhausted is had.served (omega (arith, had.long)) (record {
      then_did = now_did;
      are = had.are;
      more = more;
      back = back;
      few = (one, less);
      besides = besides;
      links = links_besides had.served more back old mid new had.links links;
    }) (subst (λ (shown : Option (List ℕ)). SaysSessions before shown (ends_of had.served)) (sym same) had.says)
serves_so_far gives did now_did later_did old mid new before now after number sessions status had few (no_next_link same idle closes) =
    no_link had.served now (omega (arith, had.long)) (subst (AreServed gives did had.served) (sym idle) had.are, subst (GivesLinks had.served [] [] old) (sym same) had.links) had.says closes
serves_so_far gives did now_did later_did old mid new before now after number sessions status had few (unsaid_next is session serves over prefix) =
    let ends = ends_of had.served in
    cut_short is (had.served ++ session ∷ []) (omega (arith, had.long, length-append had.served (session ∷ [])))
    (served_more gives did now_did later_did had.served session had.are serves.last serves.serves, links_more had.served session old mid new had.links serves.links)
    (subst (AllByRecursion IsOver) (sym (ends_more had.served session)) (over_more ends session.how had.says.over over))
    (subst (λ (lines : List ℕ). ShowsPrefix before lines after) (next_line before number ends session.how (ends_long had.served ∙ had.long) ∙ ap (session_lines 1) (sym (ends_more had.served session)))
    (prefix_more before now after (session_lines 1 ends) (session_line (number + 1) session.how) had.says.said prefix))

-- all of them
pub serves_whole : (gives : Order → Outcome → Type 0) (did now_did : Option (List Order)) (old new : DoorTold) (before now : Option (List ℕ)) (number sessions status : ℕ)
    → HasServed gives did now_did old new before now number → number ≡ sessions → status ≡ SUCCEEDED → ServesAll gives did now_did old new before now sessions status
serves_whole gives did now_did old new before now number sessions status had all is = all_served is had.served (had.long ∙ all) (had.are, had.links) had.says

-- the line of a session was said, or cut
pub says_next : (gives : Order → Outcome → Type 0) (did now_did : Option (List Order)) (first last : SeenLink) (how : ServeEnd) (old mid new : DoorTold) (before now : Option (List ℕ)) (number : ℕ)
    → mid ≡ gave_link old first → Serves gives (seen_with first did) (seen_with last now_did) how → new ≡ took_back mid last → SaysSession before now number how → SaysNext gives did now_did old new before now number
says_next gives did now_did first last how old mid new before now number gave serves back says = record {
  session = record { how = how; first = first; last = last; did = now_did };
  serves = record { last = refl; serves = serves; links = back ∙ ap (λ (door : DoorTold). took_back door last) gave };
  says = says;
}

pub stops_next : (gives : Order → Outcome → Type 0) (did now_did : Option (List Order)) (first last : SeenLink) (how : ServeEnd) (old mid new : DoorTold) (before now : Option (List ℕ)) (number status : ℕ)
    → mid ≡ gave_link old first → Serves gives (seen_with first did) (seen_with last now_did) how → new ≡ took_back mid last → CutsSession before now number how status → StopsNext gives did now_did old new before now number status
stops_next gives did now_did first last how old mid new before now number status gave serves back (unsaid_whole is same) =
    exhausted_next is same (first ∷ []) (last ∷ []) (omega arith) (omega arith) (inr (first, last, how, refl, serves)) (link_and_back first last old new (back ∙ ap (λ (door : DoorTold). took_back door last) gave))
stops_next gives did now_did first last how old mid new before now number status gave serves back (unsaid_part is over prefix) =
    unsaid_next is (record { how = how; first = first; last = last; did = now_did })
    (record { last = refl; serves = serves; links = back ∙ ap (λ (door : DoorTold). took_back door last) gave }) over prefix

pub stop_later : {old mid now : DeskState} {door_then door_mid door_now status : ℕ} → OnlySays old mid → door_then ≤ door_mid → HasStopCause mid now door_mid door_now status → HasServeCause old now door_then door_now status
stop_later says door cause = record {
  unlinked = λ is. let rose = cause.unlinked is in omega (arith, rose, door);
  unsaid = λ is. let rose = cause.unsaid is in omega (arith, rose, says.out);
  one = inr cause.one;
}

pub over_where : (how : ServeEnd) → how ≢ end.Memory → IsOver how
over_where end.Ended other = tt
over_where end.Lost other = tt
over_where (end.Bad at) other = tt
over_where end.Memory other = absurd (other refl)

-- the line of a session, as it was printed
pub printed : (number from : ℕ) (how : ServeEnd) (bytes out empty : List ℕ) → bytes ≡ out → out ≡ empty ++ session_line (from + 1) how → empty ≡ [] → from ≡ number → bytes ≡ session_line (number + 1) how
printed number from how bytes out empty same is none number_is = same ∙ is ∙ ap (λ (before : List ℕ). before ++ session_line (from + 1) how) none ∙ ap (λ (n : ℕ). session_line (n + 1) how) number_is

-- ---- how a worker ends

serves_one : (gives : Order → Outcome → Type 0) (did now_did : Option (List Order)) (old new : DoorTold) (before now : Option (List ℕ)) (sessions status : ℕ) → ServesAll gives did now_did old new before now sessions status
    → (status ≡ SUCCEEDED) ⊎ (status ≡ OUT_OF_MEMORY) ⊎ (status ≡ UNHIRED) ⊎ (status ≡ UNSAID)
serves_one gives did now_did old new before now sessions status (all_served is served long links says) = inl is
serves_one gives did now_did old new before now sessions status (exhausted is served few links says) = inr (inl is)
serves_one gives did now_did old new before now sessions status (no_link served between few links says closes) = inr (inr (closes_status between now cannot_listen UNHIRED status closes))
serves_one gives did now_did old new before now sessions status (cut_short is served few links over prefix) = inr (inr (inr is))

pub works_one : (gives : Order → Outcome → Type 0) (crew crew_after : CrewTold) (old new : DoorTold) (before now : Option (List ℕ)) (address : Address) (sessions status : ℕ)
    → Works gives crew crew_after old new before now address sessions status → (status ≡ SUCCEEDED) ⊎ (status ≡ OUT_OF_MEMORY) ⊎ (status ≡ UNHIRED) ⊎ (status ≡ UNSAID)
works_one gives crew crew_after old new before now address sessions status (unhired_memory nobody is stays same) = inr (inl is)
works_one gives crew crew_after old new before now address sessions status (unopened_memory did fresh here is stays same) = inr (inl is)
works_one gives crew crew_after old new before now address sessions status (unhired same stays closes) = inr (inr (closes_status before now cannot_hire UNHIRED status closes))
works_one gives crew crew_after old new before now address sessions status (unopened did fresh here stays closes) = inr (inr (closes_status before now cannot_listen UNHIRED status closes))
works_one gives crew crew_after old new before now address sessions status (worked did now_did fresh here serves) = serves_one gives did now_did (opened_at old address) new before now sessions status serves

-- ---- nothing but saying

pub says_itself : {old : DeskState} → OnlySays old old
says_itself = record { tells = refl; files = λ told. (refl, refl); disk = refl; out = omega arith; asks = omega arith }

pub says_on : {old mid now : DeskState} → OnlySays old mid → OnlySays mid now → OnlySays old now
says_on first second = record {
  tells = second.tells ∙ first.tells;
  files = λ told. (let later = second.files (subst IsTrue (sym first.tells) told) in let before = first.files told in (later.0 ∙ before.0, later.1 ∙ before.1));
  disk = second.disk ∙ first.disk;
  out = omega (arith, first.out, second.out);
  asks = omega (arith, first.asks, second.asks);
}

-- what is said is nothing but said
pub says_only : {bytes : List ℕ} {old now : DeskState} → Says bytes old now → OnlySays old now
says_only says = record {
  tells = says.tells;
  files = λ told. ((says.files told).files, says.marks told);
  disk = says.disk_faults;
  out = says.out_faults;
  asks = omega (arith, says.asks);
}

-- ---- the hand of a worker

-- the one hand that was hired, which was taken from the others, of which there are none
pub fresh_alone : {P : Type 0} (did : P → Option (List Order)) (hands rest : List P) (hand : P) → hands ≡ rest ++ hand ∷ [] → AllByRecursion IsFresh (map did hands) → IsFresh (did hand)
fresh_alone {P} did hands rest hand is fresh = last rest (subst (λ (l : List P). AllByRecursion IsFresh (map did l)) is fresh)
  where
    last : (rest : List P) → AllByRecursion IsFresh (map did (rest ++ hand ∷ [])) → IsFresh (did hand)
    last [] all = all.0
    last (first ∷ others) all = last others all.1

none_left : {P : Type 0} (hands : List P) → length hands ≡ 0 → hands ≡ []
none_left [] long = refl
none_left (hand ∷ hands) long = absurd (omega (arith, long))

alone : {P : Type 0} (rest back : List P) (hand : P) → length rest ≡ 0 → back ≡ rest ++ hand ∷ [] → back ≡ hand ∷ []
alone {P} rest back hand long is = is ∙ ap (λ (l : List P). l ++ hand ∷ []) (none_left rest long)

told_alone : (told : GivenBack) (dids : List (Option (List Order))) (did : Option (List Order)) → dids ≡ did ∷ [] → IsGivenBack (option_map (λ (earlier : List (Option (List Order))). dids) told) did
told_alone None dids did is = tt
told_alone (Some earlier) dids did is = is

-- it alone was hired and given back
pub back_alone : {P : Type 0} (did : P → Option (List Order)) (crew mid last : CrewTold) (rest back : List P) (hand : P) → mid ≡ hired_for crew (want.Local 1) → last ≡ gave_back mid (map did back)
    → length rest ≡ 0 → back ≡ rest ++ hand ∷ [] → HiresHere crew last (did hand)
back_alone {P} did crew mid last rest back hand hired gave long is = record {
  hired = ap (λ (told : CrewTold). told.hired) gave ∙ ap (λ (told : CrewTold). told.hired) hired;
  back = subst (λ (told : GivenBack). IsGivenBack told (did hand)) (sym (ap (λ (told : CrewTold). told.back) gave))
      (told_alone mid.back (map did back) (did hand) (ap (map did) (alone rest back hand long is)));
}

-- one hand that was given back is all that were hired
back_all : (told : GivenBack) (did : Option (List Order)) → IsGivenBack told did → AreAllBack (want.Local 1) told
back_all None did is = tt
back_all (Some hands) did is = ap length is

pub here_hires : {crew last : CrewTold} {did : Option (List Order)} → HiresHere crew last did → Hires (want.Local 1) crew last
here_hires {last = last} {did} here = record { hired = here.hired; back = back_all last.back did here.back }
