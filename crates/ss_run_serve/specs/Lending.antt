-- What became of the keepers and ports that a site gave.
use Rattle.std.specs.Prelude.{◌≡◌, ◌⊎◌, ◌+◌, ℕ, List, [], ◌∷◌, ◌++◌, map, take}
use Rattle.ss_links.specs.Counts.{RoseBy}
use Rattle.ss_site.specs.Sites.{LentParts}
use Rattle.ss_words.specs.declared.commands.ServeCommand.{ServeCommand}
use Rattle.ss_words.specs.declared.commands.Command.TheVariants.{Serve}
use Rattle.ss_words.specs.Commands.{Asks}

-- so many keepers and ports are out that weren't before: so many more were given than came back
pub record AreOut (n : ℕ) (old new : LentParts) : Type 0 where
  pub returned : ℕ
  pub given : RoseBy (n + returned) old.given new.given
  pub back : RoseBy returned old.back new.back

-- all that were given came back
abbrev pub AllAreBack : LentParts → LentParts → Type 0
AllAreBack old new = AreOut 0 old new

-- so many came back, and none was given
pub record HaveComeBack (n : ℕ) (old new : LentParts) : Type 0 where
  pub given : new.given ≡ old.given
  pub back : RoseBy n old.back new.back
  pub addresses : new.addresses ≡ old.addresses
  pub keepers : new.keepers ≡ old.keepers

-- one port at most was given, which listens at this address
abbrev pub ListensAt : List ℕ → LentParts → LentParts → Type 0
ListensAt address old new = (new.addresses ≡ old.addresses) ⊎ (new.addresses ≡ old.addresses ++ address ∷ [])

-- a port was given only where the words ask a server, and then one, which listens at their address
abbrev pub ListensAsAsked : List (List ℕ) → LentParts → LentParts → Type 0
ListensAsAsked words old new =
    (new.addresses ≡ old.addresses) ⊎ ((command : ServeCommand) × Asks words (Serve command) × (new.addresses ≡ old.addresses ++ command.address ∷ []))

-- the keepers with these uids of a folder
abbrev pub keepers_at : List ℕ → List ℕ → List (List ℕ × ℕ)
keepers_at folder uids = map (λ uid. (folder, uid)) uids

-- a keeper was given of each of so many of these uids that come first, in order, in this folder, and of no other
abbrev pub OpensAt : List ℕ → List ℕ → LentParts → LentParts → Type 0
OpensAt folder uids old new = (n : ℕ) × (new.keepers ≡ old.keepers ++ keepers_at folder (take n uids))

-- keepers were given only where the words ask a server, and then those of its accounts that come first, in order, in its folder
abbrev pub OpensAsAsked : List (List ℕ) → LentParts → LentParts → Type 0
OpensAsAsked words old new = (new.keepers ≡ old.keepers) ⊎ ((command : ServeCommand) × Asks words (Serve command) × OpensAt command.folder command.uids old new)
