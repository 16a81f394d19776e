-- The line that adds a balance: A, with its set-up data. From docs/SCRIPTS.md, "Calls", with the limits of "Fields".
use Rattle.std.specs.Prelude.{ℕ, Bool, Option, Some, is_some, unwrap_or, List, [], ◌∷◌, slice_index}
use Rattle.std.specs.Option.{option_map_or}
use Rattle.master.specs.declared.add.Addition.{Addition}
use Rattle.script_lines.specs.declared.Call.{Call}
use Rattle.script_lines.specs.declared.Call.TheVariants.{Add}
use Rattle.script_fields.specs.Read.{◌>>=◌, Field, setup_at, setup_bytes}
use Rattle.script_lines.specs.Fields.{numbers_at, flagged}

-- ---- A addr ident sync freeze groups failsafe user config in out room

abbrev pub add_fields : List ℕ → ℕ → Option (Field (List ℕ))
add_fields s at = numbers_at (255 ∷ 65535 ∷ 1 ∷ 1 ∷ 255 ∷ 1 ∷ []) s at

abbrev pub length_fields : List ℕ → ℕ → Option (Field (List ℕ))
length_fields s at = numbers_at (65535 ∷ 65535 ∷ 65535 ∷ []) s at

-- what is added, by the numbers before the set-up data and by the lengths behind it; user and config say whether there is set-up data
abbrev pub addition_of : List ℕ → Bool → Bool → List ℕ → Addition
addition_of v user config lengths =
    record {
      address = slice_index v 0;
      options =
          record {
            ident_number = slice_index v 1;
            max_tsdr = 0;
            groups = slice_index v 4;
            sync_mode = flagged (slice_index v 2);
            freeze_mode = flagged (slice_index v 3);
            fail_safe = flagged (slice_index v 5);
            has_user_parameters = user;
            user_parameters = 0;
            has_config = config;
            config = 0;
          };
      input_len = slice_index lengths 0;
      output_len = slice_index lengths 1;
      room = slice_index lengths 2;
    }

unfoldable pub add_call : List ℕ → ℕ → Option (Field Call)
add_call s at = do
  f ← add_fields s at
  user ← setup_at s f.next
  config ← setup_at s user.next
  lengths ← length_fields s config.next
  Some (record {
    value =
        Add (addition_of f.value (is_some user.value) (is_some config.value) lengths.value)
        (unwrap_or user.value 0) (unwrap_or config.value 0);
    next = lengths.next;
  })

-- the user parameters of an A, and its configuration
unfoldable pub user_bytes : List ℕ → ℕ → List ℕ
user_bytes s at = option_map_or (λ f. setup_bytes s f.next) (add_fields s at) []

unfoldable pub config_bytes : List ℕ → ℕ → List ℕ
config_bytes s at = option_map_or (λ user. setup_bytes s user.next) (do
  f ← add_fields s at
  setup_at s f.next) []
