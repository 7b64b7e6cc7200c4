-- What accept_from_primary says, as number and values: no case is a refusal, so the number is 0. The values are 1 or 0 for three things: the message is of our view,
-- so the primary was heard; we catch up with its view; it is taken. Assumes nothing.
use Rattle.std.specs.Prelude.{◌≡◌, not, [], ◌∷◌, eqb, ltb}
use Rattle.numbers.specs.Words.{when◌then◌else◌, ◌and◌, ◌or◌}
use Rattle.numbers.specs.declared.View.{View}
use Rattle.frames.specs.Numbered.{Numbered, numbered}
use Rattle.state.specs.State.{leads}
use Rattle.state.specs.Statuses.{is_normal, is_changing}
use Rattle.state.specs.declared.Replica.{Replica}
use Rattle.steps.specs.Steps.{accept_of}
use Rattle.steps.specs.declared.Accept.{Accept}
use Rattle.steps.specs.declared.Accept.TheVariants.{Ignore, Hear, Join, Rejoin, Take}

abbrev pub accept_number : Accept → Numbered
accept_number Ignore = numbered 0 (0 ∷ 0 ∷ 0 ∷ [])
accept_number Hear = numbered 0 (1 ∷ 0 ∷ 0 ∷ [])
accept_number Join = numbered 0 (0 ∷ 1 ∷ 0 ∷ [])
accept_number Rejoin = numbered 0 (1 ∷ 1 ∷ 0 ∷ [])
accept_number Take = numbered 0 (1 ∷ 0 ∷ 1 ∷ [])

-- By the rules, of a message of view v. Heard: v is ours. Caught up with: a later view, or ours while we change to it and aren't catching up yet. Taken: in our
-- view, by a backup in Normal.
unfoldable pub accept_numbers : Replica → View → Numbered
accept_numbers s v =
    numbered 0
    ((when eqb v.0 s.view.0 then 1 else 0)
    ∷ (when ltb s.view.0 v.0 or (eqb v.0 s.view.0 and is_changing s.status and not s.catching) then 1 else 0)
    ∷ (when eqb v.0 s.view.0 and is_normal s.status and not (leads s) then 1 else 0)
    ∷ [])

-- what `accept_from_primary` promises: the enum, and its number and values
pub record Accepts (s : Replica) (v : View) (r : Accept) : Type 0 where
  pub exact : r ≡ accept_of s v
  pub number : accept_number r ≡ accept_numbers s v
