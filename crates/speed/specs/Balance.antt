-- The balances of the bench: how each is set up, and what it answers. From docs/COMPARE.md, "Speed".
use Rattle.std.specs.Prelude.{ℕ, Bool, true, false, ◌||◌, cond, eqb, Option, Some, None}
use Rattle.fdl.specs.declared.parameters.Parameters.{Parameters}
use Rattle.fdl.specs.declared.telegram.Telegram.{Telegram}
use Rattle.fdl.specs.declared.telegram.Telegram.TheVariants.{ShortConfirmation, Data as DataReply}
use Rattle.payloads.specs.declared.request.Request.{Request}
use Rattle.payloads.specs.declared.request.Request.TheVariants.{Diagnosis, Parameters as SetUp, Configuration, Data}
use Rattle.answers.specs.declared.turn.Transmission.{Transmission}
use Rattle.answers.specs.declared.turn.Transmission.TheVariants.{Nothing, Control, Request as Asked}
use Rattle.master.specs.declared.add.Addition.{Addition}
use Rattle.speed.specs.declared.balance.Answer.{Answer}

-- own address 2, retry limit 1, slot time 200, no watchdog, min Tsdr 11 and four pools of 16,384 bytes
abbrev pub unit_parameters : Parameters
unit_parameters =
    record {
      slot_time = 200;
      setup_pool = 16384;
      input_pool = 16384;
      output_pool = 16384;
      diag_pool = 16384;
      address = 2;
      max_retry_limit = 1;
      watchdog = false;
      watchdog_first = 0;
      watchdog_second = 0;
      min_tsdr_bits = 11;
    }

-- ident 0x1234, no flags, groups 0, images of 4 bytes each and room 16
abbrev pub balance_added : ℕ → Addition
balance_added address =
    record {
      address = address;
      options =
          record {
            ident_number = 0x1234;
            max_tsdr = 0;
            groups = 0;
            sync_mode = false;
            freeze_mode = false;
            fail_safe = false;
            has_user_parameters = true;
            user_parameters = 0;
            has_config = true;
            config = 0;
          };
      input_len = 4;
      output_len = 4;
      room = 16;
    }

abbrev pub balance_says : ℕ → ℕ → Bool → Telegram → Answer
balance_says address slot carries t = record { address = address; slot = slot; «data» = carries; telegram = t }

-- to a diagnosis request data with DSAP 62, SSAP 60; to parameters and configuration a short confirmation; to data a reply with no SAPs
abbrev pub said_to : Request → ℕ → ℕ → Answer
said_to Diagnosis address slot = balance_says address slot false (DataReply (Some 62) (Some 60) 8)
said_to SetUp address slot = balance_says address slot false ShortConfirmation
said_to Configuration address slot = balance_says address slot false ShortConfirmation
said_to Data address slot = balance_says address slot true (DataReply None None 8)

-- a request is answered by every balance, or only by the one in slot 0
abbrev pub said_from : Bool → Request → ℕ → ℕ → Option Answer
said_from all kind address slot = cond (all || eqb slot 0) (Some (said_to kind address slot)) None

-- what was sent
abbrev pub balance_answer : Bool → Transmission → Option Answer
balance_answer all Nothing = None
balance_answer all (Control h) = None
balance_answer all (Asked slot kind h) = said_from all kind h.da slot
