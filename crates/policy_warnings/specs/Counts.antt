-- How many instances of an attribute there are at a place of a policy, in every run that gets there from a request which
-- repeats nothing and from empty reply and control lists.
use Rattle.std.specs.Prelude.{Bool, true, false, not, ◌==◌, ◌&&◌, ◌||◌, if◌then◌else◌, Option, Some, None}
use Rattle.std.specs.Option.{option_map}
use Rattle.avp_lists.specs.Pairs.{id_eq}
use Rattle.avp_lists.specs.declared.edits.Op.{Op}
use Rattle.avp_lists.specs.declared.edits.Op.TheVariants.{AddNew, Replace, Append, Prepend, RemoveEqual, KeepEqual, RemoveAll}
use Rattle.avp_lists.specs.declared.lists.List.{List as Name}
use Rattle.avp_lists.specs.declared.lists.List.TheVariants.{Request, Reply, Control}
use Rattle.avp_lists.specs.declared.tags.Selection.{Selection}
use Rattle.avp_lists.specs.declared.tags.Selection.TheVariants.{All, EachTag, Tag}
use Rattle.avp_unlang.specs.declared.tree.Cond.{Cond}
use Rattle.avp_unlang.specs.declared.tree.Line.{Line}
use Rattle.policy_warnings.specs.Absences.{said_of}
use Rattle.policy_warnings.specs.Mentions.{is_within, same_list, same_tagging}
use Rattle.policy_warnings.specs.declared.counts.Counts.{Counts}
use Rattle.policy_warnings.specs.declared.counts.Most.{Most}
use Rattle.policy_warnings.specs.declared.counts.Most.TheVariants.{Zero, One, Several}
use Rattle.policy_warnings.specs.declared.mentions.Mention.{Mention}

-- ---- none, one or several at most

abbrev pub one_more : Most → Most
one_more Zero = One
one_more One = Several
one_more Several = Several

abbrev pub at_least_one : Most → Most
at_least_one Zero = One
at_least_one One = One
at_least_one Several = Several

abbrev pub greater : Most → Most → Most
greater Zero n = n
greater One n = at_least_one n
greater Several n = Several

abbrev pub is_several : Most → Bool
is_several Zero = false
is_several One = false
is_several Several = true

-- ---- where a policy begins

-- the reply and control lists are empty; what a request repeats is not known, and is taken to be there once
abbrev pub most_at_start : Name → Most
most_at_start Request = One
most_at_start Reply = Zero
most_at_start Control = Zero

abbrev pub at_start : Mention → Counts
at_start m = record { is_certain = false; most = most_at_start m.list }

-- ---- after an update line

-- all instances, whatever their tags
abbrev pub means_all : Selection → Bool
means_all All = true
means_all (EachTag tagging) = true
means_all (Tag tagging n) = false

-- Whether the operator is for all of the mentioned instances comes second. If it is not, some stay that it is not for,
-- and what it adds may be one more of them.
abbrev pub most_after : Op → Bool → Most → Most
most_after AddNew true n = at_least_one n
most_after AddNew false n = one_more n
most_after Replace true n = One
most_after Replace false n = one_more n
most_after Append _ n = one_more n
most_after Prepend _ n = one_more n
most_after RemoveEqual _ n = n
most_after KeepEqual _ n = n
most_after RemoveAll true n = Zero
most_after RemoveAll false n = n

-- by whether what is added is surely one of the mentioned instances
abbrev pub certain_after : Op → Bool → Bool → Bool
certain_after AddNew meant certain = meant || certain
certain_after Replace meant certain = meant
certain_after Append meant certain = meant || certain
certain_after Prepend meant certain = meant || certain
certain_after RemoveEqual meant certain = false
certain_after KeepEqual meant certain = false
certain_after RemoveAll meant certain = false

abbrev pub edited : Mention → Line → Counts → Counts
edited m line c = record {
  is_certain = certain_after line.op (means_all m.selection) c.is_certain;
  most = most_after line.op (is_within m.selection line.selection) c.most;
}

-- instances with another tag
abbrev pub are_apart : Selection → Selection → Bool
are_apart (Tag tagging n) (Tag other k) = same_tagging tagging other && not (n == k)
are_apart _ _ = false

-- the line edits the attribute in the list, and not with another tag
abbrev pub touches : Mention → Line → Bool
touches m line = same_list m.list line.list && id_eq m.id line.id
    && not (are_apart m.selection line.selection)

-- other lines leave them
abbrev pub after_line : Mention → Line → Counts → Counts
after_line m line c = if touches m line then edited m line c else c

-- ---- where a condition is asked

-- nothing is known where no run gets to
abbrev pub Known : Type 0
Known = Option Counts

-- one is there if the condition says so
abbrev pub found : Bool → Counts → Counts
found there c = record c { is_certain = there || c.is_certain }

abbrev pub where_true : Mention → Cond → Known → Known
where_true m cond k = option_map (found (said_of m cond).present_when_true) k

abbrev pub where_false : Mention → Cond → Known → Known
where_false m cond k = option_map (found (said_of m cond).present_when_false) k

-- ---- where two ways come together

abbrev pub both_ways : Counts → Counts → Counts
both_ways c d = record {
  is_certain = c.is_certain && d.is_certain;
  most = greater c.most d.most;
}

abbrev pub either_way : Known → Known → Known
either_way None k = k
either_way (Some c) None = Some c
either_way (Some c) (Some d) = Some (both_ways c d)
