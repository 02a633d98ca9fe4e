-- What passed over the link of a session: the frames that came, and the replies that were sent.
use Rattle.std.specs.Prelude.{◌≡◌, ◌≢◌, ◌⊎◌, ℕ, ◌≤◌, List, [], ◌++◌, length, take}
use Rattle.std.specs.List.{flat_map}
use Rattle.tf_numbers.specs.Numbers.{Rises}
use Rattle.tf_ports.specs.Ports.{SeenLink, left_before, IsNothingLeft}
use Rattle.tf_ports.specs.Transcript.{Passed, sent_with, SendsPrefix, received_in, sent_in, HeldBefore}
use Rattle.tf_wire.specs.Stream.{counted, IsFrame, framed, joined, SplitsInto, KeepsStream, BeginsWithFrame, BeginsWithBadLength}
use Rattle.tf_sessions.specs.Receiving.{IsKnown}
use Rattle.tf_sessions.specs.declared.incoming.Incoming.{Incoming}
use Rattle.tf_sessions.specs.declared.incoming.ServeEnd.{ServeEnd}
use Rattle.tf_sessions.specs.declared.incoming.ServeEnd.TheVariants as end

-- replies, one behind the other
abbrev pub all_said : List (List ℕ) → List ℕ
all_said replies = flat_map (λ reply. reply) replies

-- Of these frames so many had come whole, and no further whole frame; and just their replies had been sent.
pub record AllAnswered (frames replies : List (List ℕ)) (passed : List Passed) : Type 0 where
  pub count : ℕ
  pub few : count ≤ length frames
  pub rest : List ℕ
  pub came : received_in passed ≡ joined (take count frames) ++ rest
  pub none_whole : ¬ (BeginsWithFrame rest)
  pub sent : sent_in passed ≡ all_said (take count replies)

-- Each time something came, all frames that had come whole before had been answered: so no reply was sent before its
-- request had come whole, and each was sent before more was taken.
abbrev pub AnswersFirst : (frames replies : List (List ℕ)) → List Passed → Type 0
AnswersFirst frames replies passed = HeldBefore (AllAnswered frames replies) [] passed

-- ---- one step

-- these bytes were sent, and nothing came
pub record SendsAll (bytes : List ℕ) (before now : SeenLink) : Type 0 where
  pub left : now.left ≡ before.left
  pub passed : now.transcript ≡ sent_with before.transcript bytes
  pub faults : before.faults ≤ now.faults
  pub ends : before.ends ≤ now.ends

-- a prefix of these bytes was sent, and nothing came
pub record SendsPart (bytes : List ℕ) (before now : SeenLink) : Type 0 where
  pub left : now.left ≡ before.left
  pub passed : SendsPrefix before.transcript bytes now.transcript
  pub faults : before.faults ≤ now.faults
  pub ends : before.ends ≤ now.ends

-- ---- a session while it goes on

-- Of what came these frames were taken and answered by these replies, each before more came. The next frame stands at
-- its place.
pub record Stands (before now : SeenLink) (frames replies : List (List ℕ)) (incoming : Incoming) : Type 0 where
  pub passed : List Passed
  pub went : now.transcript ≡ before.transcript ++ passed
  pub left : before.left ≡ left_before (received_in passed) now.left
  pub as_many : length replies ≡ length frames
  pub sent : sent_in passed ≡ all_said replies
  pub answers_first : AnswersFirst frames replies passed
  pub keeps : KeepsStream incoming.frames (received_in passed) frames
  pub is_known : IsKnown incoming.frames incoming.refused
  pub is_place : incoming.place ≡ counted (length (joined frames))
  pub faults : before.faults ≤ now.faults
  pub ends : before.ends ≤ now.ends

-- ---- a session that is over

-- What passed over the link: the bytes that came are these frames and some behind them. What was sent is a prefix of
-- the replies and of what else was begun; each reply was sent before more came.
pub record Talk (before now : SeenLink) (frames replies : List (List ℕ)) (begun : List ℕ) : Type 0 where
  pub passed : List Passed
  pub went : now.transcript ≡ before.transcript ++ passed
  pub left : before.left ≡ left_before (received_in passed) now.left
  pub behind : List ℕ
  pub cut : SplitsInto (received_in passed) frames behind
  pub count : ℕ
  pub sent : sent_in passed ≡ take count (all_said replies ++ begun)
  pub answers_first : AnswersFirst frames replies passed
  pub faults : before.faults ≤ now.faults
  pub ends : before.ends ≤ now.ends

-- all replies were sent whole, and nothing else
abbrev pub IsWholeTalk : {before now : SeenLink} {frames replies : List (List ℕ)} {begun : List ℕ}
    → Talk before now frames replies begun → Type 0
IsWholeTalk {replies = replies} talk = sent_in talk.passed ≡ all_said replies

-- the link ended
pub record IsLinkOver (before now : SeenLink) : Type 0 where
  pub rose : Rises before.ends now.ends
  pub nothing_left : IsNothingLeft now.left

-- the link ended inside a frame: some bytes stand behind the frames that are no whole frame, and might become one
pub record IsCutShort (behind : List ℕ) : Type 0 where
  pub some : behind ≢ []
  pub no_frame : ¬ (BeginsWithFrame behind)
  pub not_bad : ¬ (BeginsWithBadLength behind)

-- a whole frame of which this holds stands at the front
pub record BeginsWithFrameSo (P : List ℕ → Type 0) (bytes : List ℕ) : Type 0 where
  pub frame : List ℕ
  pub behind : List ℕ
  pub is_frame : IsFrame frame
  pub prefix : bytes ≡ framed frame ++ behind
  pub is_so : P frame

-- How a session ends. Ended: the link ended between two frames. Lost: the link failed, or it ended inside a frame. Bad:
-- at this place stands a frame that is no request, or a length that no frame has. Of Memory nothing is said.
abbrev pub TalkEndsAs : (List ℕ → Type 0) → ServeEnd → {before now : SeenLink} {frames replies : List (List ℕ)}
    {begun : List ℕ} → Talk before now frames replies begun → Type 0
TalkEndsAs is_none end.Ended {before = before} {now = now} talk =
    IsWholeTalk talk × (talk.behind ≡ []) × IsLinkOver before now
TalkEndsAs is_none end.Lost {before = before} {now = now} talk =
    Rises before.faults now.faults ⊎ (IsWholeTalk talk × IsCutShort talk.behind × IsLinkOver before now)
TalkEndsAs is_none (end.Bad at) {frames = frames} talk =
    IsWholeTalk talk × (at ≡ counted (length (joined frames)))
    × (BeginsWithFrameSo is_none talk.behind ⊎ BeginsWithBadLength talk.behind)
TalkEndsAs is_none end.Memory talk = Unit {0}
