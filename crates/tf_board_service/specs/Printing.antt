-- Which replies can be printed.
use Rattle.std.specs.Prelude.{◌≤◌, length}
use Rattle.std.specs.List.{AllByRecursion}
use Rattle.tf_wire.specs.Limits.{IsWord}
use Rattle.tf_board_service.specs.Sessions.{MOST_LINES}
use Rattle.tf_board_service.specs.declared.replies.BoardReply.{BoardReply}
use Rattle.tf_board_service.specs.declared.replies.BoardReply.TheVariants as reply

-- it has no more lines than a reply may have
abbrev pub HasFewLines : BoardReply → Type 0
HasFewLines (reply.Lines lines) = length lines ≤ MOST_LINES
HasFewLines (reply.Refused why) = Unit {0}

-- its lines, or its reason, are texts
abbrev pub HasTexts : BoardReply → Type 0
HasTexts (reply.Lines lines) = AllByRecursion IsWord lines
HasTexts (reply.Refused why) = IsWord why
