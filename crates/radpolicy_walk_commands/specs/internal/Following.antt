-- An attribute's instances in the lists, as they are at a place of a run.
use Rattle.std.specs.Prelude.{◌≡◌, ℕ, List}
use Rattle.avp_lists.specs.Instances.{instances}
use Rattle.avp_lists.specs.States.{list_of}
use Rattle.avp_lists.specs.declared.lists.List.{List as Name}
use Rattle.avp_lists.specs.declared.lists.List.TheVariants.{Request, Reply, Control}
use Rattle.avp_lists.specs.declared.pairs.AttrId.{AttrId}
use Rattle.avp_dict.specs.Dictionary.{Dictionary}
use Rattle.avp_step.specs.Trace.{Entry}
use Rattle.radpolicy_common.specs.ChangeTexts.{AllFit}
use Rattle.radpolicy_walk_commands.specs.Histories.{entry_at}
use Rattle.radpolicy_walk_commands.specs.declared.histories.Follower.{Follower}
use Rattle.radpolicy_walk_commands.specs.declared.histories.Followers.{Followers}
use Rattle.radpolicy_walk_commands.specs.internal.EditedLines.{AreMade, LeaveOthers, effect_at}

-- they are those at this position, each step of another line leaves them, and each with an effect makes it
pub record IsFollowing (dictionary : Dictionary) (list : Name) (id : AttrId) (trace : List Entry)
    (k : ℕ) (follower : Follower) : Type 0 where
  pub others : LeaveOthers list id follower.edited trace
  pub made : AreMade list id (effect_at follower.edited) trace
  pub here : follower.instances ≡ instances id (list_of list (entry_at trace k).outcome.state)
  pub fit : AllFit dictionary follower.instances

-- so it is in each list
pub record AreFollowing (dictionary : Dictionary) (id : AttrId) (trace : List Entry) (k : ℕ)
    (followers : Followers) : Type 0 where
  pub request : IsFollowing dictionary Request id trace k followers.request
  pub reply : IsFollowing dictionary Reply id trace k followers.reply
  pub control : IsFollowing dictionary Control id trace k followers.control
